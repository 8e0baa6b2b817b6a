-- the steps of the quick way, and one more
use Rattle.std.proofs.Common.{◌≡◌, ℕ, suc, None, inl, refl, subst, sym, arith}
use Rattle.std.proofs.lemmas.Result.{err_from_is_err_and}
use Rattle.gx_machine.specs.Machine.{Whole}
use Rattle.gx_machine.specs.Advancing.{Passes}
use Rattle.gx_machine.specs.WaysBack.{HasWaysBack}
use Rattle.gx_machine.proofs.Passing.{joined, done-logs-none, logs-none}
use Rattle.gx_machine.proofs.Steps.{went_lower, went_asks}
use Rattle.gx_machine.proofs.machine.Machine.advance.Goals as goal

pub returns-in_err-passed : goal.returns-in_err-passed
returns-in_err-passed g c =
    let p = err_from_is_err_and c.from_residual.result c.from_residual.ensures.1 in
    let passed = c.in_err-passed.ensures.value c.args.word in
    let before = c.loop-self.invariant.passes in
    let all = joined c.args.word before.0 passed.0 _ _ _ None None None before.1 passed.1 in
    rw (p.1, p.2) (record {
      count = all.0;
      before = c.passes-passed.new.self;
      log = None;
      passes = all.1;
      step = inl (refl, passed.2);
      stands = tt;
      logs = refl;
      backs = c.ways_back.ensures;
    })

pub returns-in-Some : goal.returns-in-Some
returns-in-Some g c =
    let passed = c.in_ok-passed.ensures.value c.args.word in
    let before = c.loop-self.invariant.passes in
    let all = joined c.args.word before.0 passed.0 _ _ _ None None None before.1 passed.1 in
    record {
      count = all.0;
      before = c.passes-passed.new.self;
      log = None;
      passes = all.1;
      step = inl (c.in-Some.ensures.value c.args.word);
      stands = λ some. c.in-Some.ensures.stands;
      logs = refl;
      backs = c.ways_back.ensures;
    }

pub loop-self-smaller : goal.loop-self-smaller
loop-self-smaller g c =
    let went = rw c.in-Ok-Went.field-0-is at c.in-Ok-Went.ensures.step in
    omega (arith, went_lower _ _ _ _ _ went, c.in_ok-passed.ensures.no_more)

pub loop-self-preserved : goal.loop-self-preserved
loop-self-preserved g c =
    let went = rw c.in-Ok-Went.field-0-is at c.in-Ok-Went.ensures.step in
    let same : c.put_next.new.self ≡ c.passes-passed.new.self = c.in-None.ensures.none refl in
    let passed = subst (λ (x : Whole). (n : ℕ) × Passes c.args.word n (c.loop-self.self, c.loop-self.budget) None
    (x, c.passes-passed.new.budget) None) (sym same) (c.in_ok-passed.ensures.value c.args.word) in
    let backs = subst (λ (x : Whole). HasWaysBack x.machine) (sym same) c.ways_back.ensures in
    let before = c.loop-self.invariant.passes in
    let all = joined c.args.word before.0 passed.0 _ _ _ None None None before.1 passed.1 in
    record {
      none = went_asks _ _ _ _ _ went;
      passes = (suc all.0, ((c.put_next.new.self, c.passes-passed.new.budget), None, all.1, went, refl, backs));
    }

pub returns-in_default : goal.returns-in_default
returns-in_default g c =
    let same : c.put_next.new.self ≡ c.passes-passed.new.self = c.in-None.ensures.none refl in
    let passed = subst (λ (x : Whole). (n : ℕ) × Passes c.args.word n (c.loop-self.self, c.loop-self.budget) None
    (x, c.passes-passed.new.budget) None) (sym same) (c.in_ok-passed.ensures.value c.args.word) in
    let backs = subst (λ (x : Whole). HasWaysBack x.machine) (sym same) c.ways_back.ensures in
    let before = c.loop-self.invariant.passes in
    let all = joined c.args.word before.0 passed.0 _ _ _ None None None before.1 passed.1 in
    record {
      count = all.0;
      before = c.put_next.new.self;
      log = None;
      passes = all.1;
      step = inl c.in_default.ensures.step;
      stands = c.in_default.ensures.stands;
      logs = done-logs-none _ _;
      backs = backs;
    }

pub returns-in_default-2 : goal.returns-in_default-2
returns-in_default-2 g c =
    let same : c.put_next.new.self ≡ c.passes-passed.new.self = c.in-None.ensures.none refl in
    let passed = subst (λ (x : Whole). (n : ℕ) × Passes c.args.word n (c.loop-self.self, c.loop-self.budget) None
    (x, c.passes-passed.new.budget) None) (sym same) (c.in_ok-passed.ensures.value c.args.word) in
    let backs = subst (λ (x : Whole). HasWaysBack x.machine) (sym same) c.ways_back.ensures in
    let before = c.loop-self.invariant.passes in
    let all = joined c.args.word before.0 passed.0 _ _ _ None None None before.1 passed.1 in
    record {
      count = all.0;
      before = c.put_next.new.self;
      log = None;
      passes = all.1;
      step = inl c.turn.ensures.step;
      stands = c.turn.ensures.stands;
      logs = logs-none _ _;
      backs = backs;
    }
