use Rattle.std.proofs.Common.{List, [], ◌∷◌, length}
use Rattle.std.specs.Prelude.{codes}
use Rattle.std.proofs.lemmas.Result.{IfOk-at_ok}
use denote.Param.Send.{AllSend, IsSend, param_send, sendable, shr_send}
use denote.Param.{param}
use denote.Struct.Tuple.{TupleAt}
use denote.RattleType.{RattleType}
use denote.Ref.{ShrRef}
use denote.Struct.Field.{u32-field}
use mir.Syntax.{named}
use Rattle.std.specs.contracts.alloc.Global as Global
use Rattle.file_paths.proofs.Sending.{path_sync}
use Rattle.file_paths.specs.contracts.path.NormPath as NormPath
use Rattle.tree_model.proofs.Sending.{selected_sync, tree_sync}
use Rattle.tree_model.specs.contracts.tree.Tree as Tree
use Rattle.tree_model.specs.contracts.selection.Selected as Selected
use Rattle.label_rules.proofs.Sending.{rules_sync}
use Rattle.label_rules.specs.contracts.rules.Rules as Rules
use Rattle.relabel_core.proofs.Sending.{stored_sync}
use Rattle.relabel_core.specs.contracts.options.Options as Options
use Rattle.relabel_core.specs.contracts.stored.Stored as Stored
use Rattle.label_base.specs.contracts.row.Row as Row
use Rattle.dir_queue.specs.contracts.queue.DirQueue as DirQueue
use Rattle.inode_claims.specs.contracts.claims.Claims as Claims
use Rattle.relabel_workers.specs.contracts.share.Share as ShareType
use Rattle.std.proofs.Crossing.{crosses, sync}
use Rattle.dir_queue.proofs.Sending.{queue_sync}
use Rattle.label_base.proofs.Sending.{row_sync}
use Rattle.relabel_workers.specs.Held.{HasHandWorked, HasWorked, common}
use Rattle.relabel_workers.proofs.Sending.{captures_send, claims_sync, share_send, options_sync}
use Rattle.relabel_workers.proofs.Sending.{word_sync}
use Rattle.relabel_workers.proofs.ShareLemmas.{ended, hand_claims, hand_ended, hand_queue}
use Rattle.relabel_workers.proofs.running.+rows.Goals as goal

pub run_both-join-other-requires-send-A : goal.run_both-join-other-requires-send-A
run_both-join-other-requires-send-A g t c κs within = search (sendable, crosses, share_send) depth 20

-- what the first closure captures, each by its type: a search over so many ends at its count
pub run_both-join-other-requires-send-F : goal.run_both-join-other-requires-send-F
run_both-join-other-requires-send-F g t c κs within =
    let lent : List RattleType = ShrRef (named 6) κs.1.1.1.1.1.1.0 Tree.the_row ∷ ShrRef (named 7)
    κs.1.1.1.1.1.1.1.0 Selected.the_row ∷ ShrRef (named 8) κs.1.1.1.1.1.1.1.1.0
    (Row.the_row NormPath.the_row) ∷ ShrRef (named 9) κs.1.1.1.1.1.1.1.1.1.0
    Rules.the_row ∷ ShrRef (named 10) κs.1.1.1.1.1.1.1.1.1.1.0 Options.the_row ∷ ShrRef
    (named 11) κs.1.1.1.1.1.1.1.1.1.1.1.0 Stored.the_row ∷ ShrRef (named 12)
    κs.1.1.1.1.1.1.1.1.1.1.1.1.0 (param 0 g.row.R) ∷ ShrRef (named 13)
    κs.1.1.1.1.1.1.1.1.1.1.1.1.1.0 Global.the_row ∷ ShrRef (named 14)
    κs.1.1.1.1.1.1.1.1.1.1.1.1.1.1.0 DirQueue.the_row ∷ ShrRef (named 15)
    κs.1.1.1.1.1.1.1.1.1.1.1.1.1.1.1.0 Claims.the_row ∷ ShrRef (named 16)
    κs.1.1.1.1.1.1.1.1.1.1.1.1.1.1.1.1.0 (param 1 g.row.G) ∷ ShrRef (named 17)
    κs.1.1.1.1.1.1.1.1.1.1.1.1.1.1.1.1.1.0 (u32-field).row ∷ ShareType.the_row ∷ [] in
    let each : AllSend lent = (
      shr_send _ _ _ tree_sync,
      (
        shr_send _ _ _ selected_sync,
        (
          shr_send _ _ _ (row_sync NormPath.the_row path_sync),
          (
            shr_send _ _ _ rules_sync,
            (
              shr_send _ _ _ options_sync,
              (
                shr_send _ _ _ stored_sync,
                (
                  shr_send _ _ _ c.requires-raw.1.1.1.0,
                  (
                    shr_send _ _ _ sync,
                    (
                      shr_send _ _ _ queue_sync,
                      (
                        shr_send _ _ _ claims_sync,
                        (
                          shr_send _ _ _ c.requires-raw.1.1.1.1.0,
                          (shr_send _ _ _ word_sync, (share_send, tt)),
                        ),
                      ),
                    ),
                  ),
                ),
              ),
            ),
          ),
        ),
      ),
    ) in
    let T = TupleAt (codes "relabel_workers::running::fn::run_both::join+arg2") lent in
    let whole : IsSend T = captures_send (codes "relabel_workers::running::fn::run_both::join+arg2")
    lent each in
    record { owned = whole.owned; leaving = (param_send 1 T whole).leaving }

pub run_both-add_share-requires-clause-into : goal.run_both-add_share-requires-clause-into
run_both-add_share-requires-clause-into g t c = hand_ended
    (IfOk-at_ok (HasHandWorked (common c.args.site.now) c.args.hand (length c.args.passes.queue))
    c.in_ok-mine.was c.join-other.ensures.second)

pub run_both-add_share-requires-clause-from : goal.run_both-add_share-requires-clause-from
run_both-add_share-requires-clause-from g t c = ended
    (IfOk-at_ok (HasWorked (common c.args.site.now) c.args.next 0) c.in_ok-other.was
    c.join-other.ensures.first)

pub run_both-returns-clause-queue_stands : goal.run_both-returns-clause-queue_stands
run_both-returns-clause-queue_stands g t c =
    let a = IfOk-at_ok
    (HasHandWorked (common c.args.site.now) c.args.hand (length c.args.passes.queue))
    c.in_ok-mine.was c.join-other.ensures.second in
    let b = IfOk-at_ok (HasWorked (common c.args.site.now) c.args.next 0) c.in_ok-other.was
    c.join-other.ensures.first in
    hand_queue c.args.hand.share c.in_ok-mine.field-0.share c.args.next c.in_ok-other.field-0
    (length c.args.passes.queue) c.add_share.result a.worked.stands b.stands
    c.add_share.ensures.stands

pub run_both-returns-clause-claims_stand : goal.run_both-returns-clause-claims_stand
run_both-returns-clause-claims_stand g t c =
    let a = IfOk-at_ok
    (HasHandWorked (common c.args.site.now) c.args.hand (length c.args.passes.queue))
    c.in_ok-mine.was c.join-other.ensures.second in
    let b = IfOk-at_ok (HasWorked (common c.args.site.now) c.args.next 0) c.in_ok-other.was
    c.join-other.ensures.first in
    hand_claims c.args.hand.share c.in_ok-mine.field-0.share c.args.next c.in_ok-other.field-0
    (length c.args.passes.queue) c.add_share.result a.worked.stands b.stands
    c.add_share.ensures.stands
