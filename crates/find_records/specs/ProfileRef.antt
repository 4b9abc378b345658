-- What contracts see of a profile that is lent.
use Rattle.find_records.specs.Profiles.{Profile, profile_of}
use Rattle.find_records.specs.declared.profiles.ProfileRef.{ProfileRef}

abbrev pub profile_lent : ProfileRef → Profile
profile_lent m = profile_of m.device m.links m.label.now
