use Rattle.std.proofs.Common.{◌≡◌, ◌≤◌, ◌+◌, ◌-◌, ◌∙◌, arith, ap, refl, sym, subst, ℕ, List}
use Rattle.std.proofs.Common.{length, drop}
use Rattle.std.specs.Prelude.{take}
use Rattle.std.specs.List.{list_all}
use Rattle.std.proofs.lemmas.List.{length-drop, take_all}
use Rattle.std.proofs.lemmas.Result.{err_from_is_err_and}
use Rattle.pattern_syntax.specs.Reading.{Reading, after_token}
use Rattle.pattern_syntax.specs.Building.{IsBuilderOf, after_bytes}
use Rattle.pattern_syntax.specs.Shape.{are_text_bytes}
use Rattle.pattern_syntax.specs.Exact.{is_itself}
use Rattle.pattern_syntax.specs.PatternCause.{pattern_cause}
use Rattle.pattern_syntax.specs.Views.{token_of}
use Rattle.pattern_syntax.proofs.BuildingLemmas.{token_explained, fault_explained, token_read}
use Rattle.pattern_syntax.proofs.StartLemmas.{run_read}
use Rattle.pattern_syntax.proofs.pattern.read_on.Goals as goal

pub returns-then-run-gt0 : goal.returns-then-run-gt0
returns-then-run-gt0 c =
    let n = c.run_length-run.result in
    let some = c.if-run-gt0.true in
    let within = c.run_length-run.ensures.within in
    let inside : c.args.at + n ≤ length c.args.bytes.now = omega
    (arith, within, length-drop c.args.at c.args.bytes.now) in
    let whole : take (length c.args.bytes.now - c.args.at) (drop c.args.at c.args.bytes.now)
    ≡ drop c.args.at c.args.bytes.now = take_all (length c.args.bytes.now - c.args.at)
    (drop c.args.at c.args.bytes.now) (omega (arith, length-drop c.args.at c.args.bytes.now)) in
    let same : c.args.at + c.run_length-run.result - c.args.at ≡ c.run_length-run.result = omega
    arith in (
      omega arith,
      inside,
      λ (read : Reading) (s : IsBuilderOf c.args.builder.now read). (
        after_bytes read (take c.run_length-run.result (drop c.args.at c.args.bytes.now)),
        subst (λ (k : ℕ). IsBuilderOf c.add_bytes.new.self
            (after_bytes read (take k (drop c.args.at c.args.bytes.now)))) same
            (c.in_ok-add_bytes.ensures read s
            (ap (λ (k : ℕ). are_text_bytes (take k (drop c.args.at c.args.bytes.now))) same
            ∙ ap (λ (bytes : List ℕ). are_text_bytes (take c.run_length-run.result bytes))
            (sym whole)
            ∙ c.run_length-run.ensures.proper)),
        run_read c.run_length-run.result (length c.args.bytes.now) read c.args.at
            c.args.bytes.now inside
            (ap (λ (bytes : List ℕ). list_all is_itself (take c.run_length-run.result bytes))
            (sym whole)
            ∙ c.run_length-run.ensures.plain),
      ),
    )

pub returns-in_err-token : goal.returns-in_err-token
returns-in_err-token c =
    let p = err_from_is_err_and c.from_residual-in_err-token.result
    c.from_residual-in_err-token.ensures.1 in
    rw (p.1, p.2)
    (λ (read : Reading) (s : IsBuilderOf c.args.builder.now read).
    token_explained (pattern_cause c.in_err-token.field-0.0) _ (length c.args.bytes.now) read
    c.args.at c.args.bytes.now c.requires.before_end refl c.in_err-token.ensures.value)

pub returns-in_err-add : goal.returns-in_err-add
returns-in_err-add c =
    let p = err_from_is_err_and c.from_residual-in_err-add.result
    c.from_residual-in_err-add.ensures.1 in
    rw (p.1, p.2)
    (λ (read : Reading) (s : IsBuilderOf c.args.builder.now read).
    fault_explained (pattern_cause c.in_err-add.field-0.0) _ (length c.args.bytes.now) read
    c.args.at c.args.bytes.now (token_of c.in_ok-token.token) c.in_ok-token.length
    c.requires.before_end refl c.in_ok-token.ensures.value c.in_ok-token.ensures.within.0
    (c.in_err-add.ensures read s))

pub returns : goal.returns
returns c =
    let w = c.in_ok-token.ensures.within in (
      (let n = w.0 in omega (arith, n)),
      (let n = w.1 in omega (arith, n, length-drop c.args.at c.args.bytes.now)),
      λ (read : Reading) (s : IsBuilderOf c.args.builder.now read).
          let added = c.in_ok-add.ensures read s in (
            after_token read (token_of c.in_ok-token.token),
            added.1,
            token_read _ (length c.args.bytes.now) read c.args.at c.args.bytes.now
                (token_of c.in_ok-token.token) c.in_ok-token.length c.requires.before_end refl
                c.in_ok-token.ensures.value w.0 added.0,
          ),
    )
