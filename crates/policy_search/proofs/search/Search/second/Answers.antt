use Rattle.std.proofs.Common.{◌≡◌, ◌∙◌, ap, subst, sym}
use Rattle.std.proofs.lemmas.List.{get_or_default}
use Rattle.policy_lists.specs.Lists.{IsListOf}
use Rattle.policy_lists.specs.Numbered.{list_at, lists_in}
use Rattle.policy_search.specs.Places.{first_place, place_at}
use Rattle.policy_search.specs.declared.place.Place.{Place}
use Rattle.policy_search.proofs.search.Search.second.Goals as goal

pub returns : goal.returns
returns c = λ text h.
    let self = c.args.self.now in
    let here : place_at self.places.items c.args.place ≡ c.index-at.result.now =
    get_or_default self.places.items c.args.place first_place c.index-at.result.now
    c.requires.place ∙ sym c.index-at.ensures in
    c.decides.ensures c.args.aims.now.second.now text
    (subst (λ (x : Place). IsListOf c.args.aims.now.lines.now c.args.aims.now.second.now text
    (list_at (lists_in self.lists) x.second)) here h.second)
