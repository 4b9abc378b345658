use Rattle.std.proofs.Common.{◌∙◌, ap}
use Rattle.find_records.specs.Profiles.{profiles_in}
use Rattle.std.proofs.lemmas.Result.{on_err_weaker}
use Rattle.find_records.proofs.ProfileLemmas.{profiles_longer, profiles_same}
use Rattle.find_records.proofs.profiles.profile_number.Goals as goal

pub returns-clause-extends : goal.returns-clause-extends
returns-clause-extends c =
    profiles_longer c.args.labels.now c.number_of.new.self
    (record {
      device = c.args.raw.now.device;
      links = c.args.raw.now.links;
      label = c.in_ok-label.label;
    })
    c.args.rows.now.items c.number_of-2.new.rows.items
    c.in_ok-label.ensures.extends c.requires c.number_of-2.ensures.with

pub returns-clause-same : goal.returns-clause-same
returns-clause-same c =
    on_err_weaker c.number_of-2.result
    (λ same. ap (profiles_in c.number_of.new.self) same
    ∙ profiles_same c.args.labels.now c.number_of.new.self c.args.rows.now.items
    c.in_ok-label.ensures.extends c.requires)
    c.number_of-2.ensures.err
