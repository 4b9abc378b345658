-- A line that is refused ends the making of the text.
use Rattle.std.proofs.Common.{◌≡◌, sym, subst, List, ◌++◌}
use Rattle.std.specs.Prelude.{Result, Ok, Err}
use Rattle.std.specs.Result.{IsErrAnd}
use Rattle.label_base.specs.Answers.{fault_cause}
use Rattle.label_base.specs.declared.fault.Fault.{Fault}
use Rattle.home_contexts.specs.Homes.{Given}
use Rattle.home_contexts.specs.Making.{GivesHomes, StopsAtRefused}
use Rattle.home_contexts.specs.declared.homes_fault.HomesWhy.{HomesWhy}
use Rattle.home_contexts.specs.declared.made.Made.{Made}
use Rattle.home_contexts.proofs.Going.{IsGoing, going_stops}

pub gives_stop : {U : Type 0} (result : Result U (Fault HomesWhy)) (e : Fault HomesWhy) (old new :
    Made) (next : List Given) → IsErrAnd result (λ shown. shown ≡ e)
    → StopsAtRefused (fault_cause e) next →
    GivesHomes result old new next
gives_stop (Ok u) e old new next is stops = absurd is
gives_stop (Err shown) e old new next is stops = subst (λ t. StopsAtRefused (fault_cause t) next)
    (sym is) stops

pub going_refused : {U : Type 0} (result : Result U (Fault HomesWhy)) (e : Fault HomesWhy) (start
    now new : Made) (all rest next later : List Given) → IsErrAnd result (λ shown. shown ≡ e)
    → IsGoing start now all rest → rest ≡ next ++ later → StopsAtRefused (fault_cause e) next
    → GivesHomes result
    start new all
going_refused result e start now new all rest next later is going split stops =
    gives_stop result e start new all is (going_stops (fault_cause e) start now all rest next later
    going split stops)
