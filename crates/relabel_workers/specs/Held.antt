-- What workers hold, and what belongs together.
use Rattle.std.specs.Borrow.{Bor}
use Rattle.std.specs.Prelude.{◌≡◌, ℕ, ◌+◌, List, [], ◌∷◌, ◌++◌, length, All, Option, Some, None}
use Rattle.inode_claims.specs.declared.claims.ClaimPass.{ClaimPass}
use Rattle.inode_claims.specs.declared.claims.Claims.{Claims}
use Rattle.inode_claims.specs.Claiming.{fresh_claims}
use Rattle.inode_claims.specs.Answers.{IsPassOf, claim_view, groups_of}
use Rattle.dir_queue.specs.declared.queue.DirQueue.{DirQueue}
use Rattle.dir_queue.specs.declared.queue.QueuePass.{QueuePass}
use Rattle.dir_queue.specs.Passes.{fresh_queue}
use Rattle.dir_queue.specs.Answers.{IsQueuePassOf, queue_view, queue_shape, passes_of_queue}
use Rattle.file_paths.specs.Path.{Path}
use Rattle.find_records.specs.Record.{Record}
use Rattle.tree_model.specs.Groups.{groups_in}
use Rattle.tree_model.specs.Jobs as jobs
use Rattle.tree_model.specs.Selection.{SelectedValue}
use Rattle.label_rules.specs.declared.rules.Rules.{Rules}
use Rattle.relabel_core.specs.Walk.{Walk}
use Rattle.relabel_core.specs.Walked.{IsFit, walk_of}
use Rattle.relabel_core.specs.declared.input.WalkInput.{WalkInput}
use Rattle.relabel_core.specs.declared.options.Options.{Options}
use Rattle.relabel_core.specs.declared.stored.Stored.{Stored}
use Rattle.relabel_workers.specs.Worked.{IsDone, jobs_given}
use Rattle.spec_match.specs.Scratches.{IsScratchOf}
use Rattle.relabel_workers.specs.Alone.{AreListingsFor}
use Rattle.relabel_workers.specs.declared.share.Hand.{Hand}
use Rattle.relabel_workers.specs.declared.share.Share.{Share}
use Rattle.relabel_workers.specs.declared.site.Site.{Site}
use Rattle.relabel_workers.specs.declared.site.Worker.{Worker}

-- what is walked over, of its parts
abbrev pub input_of : Bor (List Record) → Bor SelectedValue → Bor (List Path) → Bor Rules → Options
    → Bor Stored → WalkInput
input_of tree chosen operands rules options stored = record {
  tree = tree;
  chosen = chosen;
  operands = operands;
  rules = rules;
  options = options;
  stored = stored;
}

-- what statements see of what workers share
pub record Common : Type 0 where
  pub input : WalkInput
  pub queue : DirQueue
  pub claims : Claims

abbrev pub common_of : WalkInput → DirQueue → Claims → Common
common_of input queue claims = record { input = input; queue = queue; claims = claims }

abbrev pub common : {R G : Type 0} → Site R G → Common
common site = common_of site.input.now site.queue.now site.claims.now

-- the queue and the claims are those of the tree that is walked
pub record IsSite (c : Common) : Type 0 where
  pub fit : IsFit c.input
  pub shape : queue_shape c.queue ≡ jobs.shape_of c.input.tree.now
  pub groups : groups_of c.claims ≡ groups_in c.input.tree.now

-- what a worker works by is made for what is walked over
pub record IsWorkerFor (input : WalkInput) (worker : Worker) : Type 0 where
  pub listings : AreListingsFor input worker.listings
  pub scratch : IsScratchOf input.rules.now.rules worker.buffers.scratch

-- both passes are of these
pub record IsShareOf (c : Common) (share : Share) : Type 0 where
  pub queue_pass : IsQueuePassOf c.queue share.queue
  pub claim_pass : IsPassOf c.claims share.claims

-- all is done for the entries of the taken jobs but for those that are left
abbrev pub AreDone : Walk → List ℕ → Share → Type 0
AreDone w left share =
    IsDone w left (queue_view share.queue).taken (queue_view share.queue).given
    (claim_view share.claims).calls share.notes

-- for how many passes the one stands, and the other
abbrev pub queue_stands : Share → ℕ
queue_stands share = (queue_view share.queue).stands_for

abbrev pub claims_stand : Share → ℕ
claims_stand share = (claim_view share.claims).stands_for

-- both stand for so many more
pub record StandFor (old : Share) (more : ℕ) (new : Share) : Type 0 where
  pub queue_more : queue_stands new ≡ queue_stands old + more
  pub claims_more : claims_stand new ≡ claims_stand old + more

-- with this a worker may begin: all is done for the entries of the taken jobs
pub record IsReady (c : Common) (share : Share) : Type 0 where
  pub own : IsShareOf c share
  pub done : AreDone (walk_of c.input) [] share

-- and so it is at its end, where it stands for so many passes more than at its beginning
pub record HasWorked (c : Common) (old : Share) (more : ℕ) (new : Share) : Type 0 where
  pub own : IsShareOf c new
  pub done : AreDone (walk_of c.input) [] new
  pub stands : StandFor old more new

-- a worker on the caller's thread may begin with this
pub record IsHandReady (c : Common) (hand : Hand) : Type 0 where
  pub ready : IsReady c hand.share
  pub scratch : IsScratchOf c.input.rules.now.rules hand.buffers.scratch

-- and so it is at its end, where it stands for so many passes more than at its beginning
pub record HasHandWorked (c : Common) (old : Hand) (more : ℕ) (new : Hand) : Type 0 where
  pub worked : HasWorked c old.share more new.share
  pub scratch : IsScratchOf c.input.rules.now.rules new.buffers.scratch

-- what a step took: nothing, or a job whose entries give so many
abbrev pub TakesOne : Walk → (old new : Share) → Option ℕ → Type 0
TakesOne w old new None =
    (queue_view new.queue ≡ queue_view old.queue) × (new.claims ≡ old.claims)
    × (new.notes ≡ old.notes)
TakesOne w old new (Some given) =
    (job : ℕ) × ((queue_view new.queue).taken ≡ (queue_view old.queue).taken ++ job ∷ [])
    × (given ≡ jobs_given w job)

-- two rows of as many passes that nothing was done with
pub record AreFreshPasses (c : Common) (queue_passes : List QueuePass)
    (claim_passes : List ClaimPass) : Type 0 where
  pub paired : length queue_passes ≡ length claim_passes
  pub queues : All (λ p. IsQueuePassOf c.queue p
      × (queue_view p ≡ fresh_queue (queue_shape c.queue).parents (passes_of_queue c.queue) 1))
      queue_passes
  pub claimers : All (λ p. IsPassOf c.claims p × (claim_view p ≡ fresh_claims 1)) claim_passes
