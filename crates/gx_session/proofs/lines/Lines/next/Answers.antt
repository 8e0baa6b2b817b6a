use Rattle.std.proofs.Common.{◌≡◌, ◌≢◌, ◌+◌, ◌<◌, ◌≤◌, ℕ, List, [], length, take, drop, get_or, IfOk, IfErr, false}
use Rattle.std.proofs.Common.{refl, ap, subst, sym, ◌∙◌, arith, length-append}
use Rattle.std.proofs.lemmas.List.{get_or_append_left}
use Rattle.std.proofs.lemmas.List.Sums.{fails_before_first}
use Rattle.std.proofs.lemmas.Result.{err_from_is_err_and}
use Rattle.gx_session.specs.declared.lines.NoLine.TheVariants as no
use Rattle.gx_session.specs.Constants.{piece}
use Rattle.gx_session.specs.Input.{is_line_feed}
use Rattle.gx_session.specs.Lines.{chars_of}
use Rattle.gx_session.specs.Lines.{HeldLines}
use Rattle.gx_session.proofs.Counting.{blames-call, well-none, well-on}
use Rattle.gx_session.proofs.Feeding.{too-long, few-held, takes-held, takes-rest, fails, fails-few, grows, grows-by}
use Rattle.gx_session.proofs.Feeding.{read-first}
use Rattle.gx_session.proofs.NextLines.{pos, pos-bound}
use Rattle.gx_session.proofs.lines.Lines.next.Goals as goal

pub loop-self-init : goal.loop-self-init
loop-self-init g c = record {
  within = omega arith;
  before = λ k less. absurd (omega arith);
  few = λ start. omega arith;
  fed = read-first g.S.Source.called g.S.Source.seen c.args.self.now c.args.source.now;
  whole = λ is. (refl, refl);
  count = well-none (g.S.Source.seen c.args.source.now).calls;
  tells = refl;
}

pub returns-then-end-ge-LONGEST-clause-takes : goal.returns-then-end-ge-LONGEST-clause-takes
returns-then-end-ge-LONGEST-clause-takes g c =
    let end : c.line_end-end.result ≡ pos c.loop-self.self.held = c.line_end-end.ensures.is ∙ ap pos c.held.ensures in
    too-long g.S.Source.called g.S.Source.seen c.args.self.now c.loop-self.self c.args.source.now c.loop-self.source
    c.loop-self.invariant.fed (omega arith)

pub returns-then-end-held-clause-takes : goal.returns-then-end-held-clause-takes
returns-then-end-held-clause-takes g c =
    let end : c.line_end-end.result ≡ pos c.loop-self.self.held = c.line_end-end.ensures.is ∙ ap pos c.held.ensures in
    let size : length c.held-in-loop-self.result.now ≡ length c.loop-self.self.held =
    ap length c.held-in-loop-self.ensures in
    takes-held g.S.Source.called g.S.Source.seen c.args.self.now c.loop-self.self c.args.source.now c.loop-self.source
    c.loop-self.invariant.fed c.take.new.self c.take.result (omega arith) (omega arith)
    (subst (λ (n : ℕ). IfOk c.take.result (λ chars. (chars ≡ chars_of (take n c.loop-self.self.held))
    × (c.take.new.self ≡ record c.loop-self.self { held = drop (n + 1) c.loop-self.self.held }))) end
    c.take.ensures.ok)
    (subst (λ (n : ℕ). IfErr c.take.result (λ e. (e ≡ no.NoMemory) × (chars_of (take n c.loop-self.self.held) ≢ [])
    × (c.take.new.self ≡ c.loop-self.self))) end c.take.ensures.err)

pub returns-then-end-held-clause-few : goal.returns-then-end-held-clause-few
returns-then-end-held-clause-few g c few =
    let end : c.line_end-end.result ≡ pos c.loop-self.self.held = c.line_end-end.ensures.is ∙ ap pos c.held.ensures in
    let size : length c.held-in-loop-self.result.now ≡ length c.loop-self.self.held =
    ap length c.held-in-loop-self.ensures in
    few-held g.S.Source.called g.S.Source.seen c.args.self.now c.loop-self.self c.args.source.now c.loop-self.source
    c.loop-self.invariant.fed c.loop-self.searched c.take.new.self c.take.result (omega arith)
    (omega (arith, c.line_end-end.ensures.later)) (c.loop-self.invariant.few few)
    (subst (λ (n : ℕ). IfOk c.take.result (λ chars. (chars ≡ chars_of (take n c.loop-self.self.held))
    × (c.take.new.self ≡ record c.loop-self.self { held = drop (n + 1) c.loop-self.self.held }))) end
    c.take.ensures.ok)
    (subst (λ (n : ℕ). IfErr c.take.result (λ e. (e ≡ no.NoMemory) × (chars_of (take n c.loop-self.self.held) ≢ [])
    × (c.take.new.self ≡ c.loop-self.self))) end c.take.ensures.err)

pub returns-then-self-clause-takes : goal.returns-then-self-clause-takes
returns-then-self-clause-takes g c =
    let end : c.line_end-end.result ≡ pos c.loop-self.self.held = c.line_end-end.ensures.is ∙ ap pos c.held.ensures in
    let size : length c.held-in-loop-self.result.now ≡ length c.loop-self.self.held =
    ap length c.held-in-loop-self.ensures in
    let few : pos c.loop-self.self.held ≤ length c.loop-self.self.held = pos-bound c.loop-self.self.held in
    takes-rest g.S.Source.called g.S.Source.seen c.args.self.now c.loop-self.self c.args.source.now c.loop-self.source
    c.loop-self.invariant.fed (ap (λ (l : HeldLines). l.ended) (sym c.self.view_is) ∙ c.if-self.true)
    (omega arith) (omega arith)
    c.take_rest.new.self c.take_rest.result c.take_rest.ensures.none c.take_rest.ensures.ok c.take_rest.ensures.err

pub returns-in_err-fill-clause-takes : goal.returns-in_err-fill-clause-takes
returns-in_err-fill-clause-takes g c =
    let p = err_from_is_err_and c.from_residual.result c.from_residual.ensures.1 in
    rw (p.1, p.2)
    (fails g.S.Source.called g.S.Source.seen c.args.self.now c.loop-self.self c.args.source.now c.loop-self.source
    c.loop-self.invariant.fed c.fill.new.self c.fill.new.source
    (ap (λ (l : HeldLines). l.ended) (sym c.self.view_is) ∙ c.if-self.false) c.fill.ensures.tells
    c.fill.ensures.count.made c.fill.ensures.offered c.in_err-fill.ensures.fills.gave
    c.in_err-fill.ensures.fills.call c.in_err-fill.field-0.0 c.in_err-fill.ensures.fills.fills)

pub returns-in_err-fill-clause-few : goal.returns-in_err-fill-clause-few
returns-in_err-fill-clause-few g c few =
    let p = err_from_is_err_and c.from_residual.result c.from_residual.ensures.1 in
    let end : c.line_end-end.result ≡ pos c.loop-self.self.held = c.line_end-end.ensures.is ∙ ap pos c.held.ensures in
    let size : length c.held-in-loop-self.result.now ≡ length c.loop-self.self.held =
    ap length c.held-in-loop-self.ensures in
    let bound : pos c.loop-self.self.held ≤ length c.loop-self.self.held = pos-bound c.loop-self.self.held in
    rw (p.1, p.2)
    (fails-few g.S.Source.called g.S.Source.seen c.args.self.now c.loop-self.self c.args.source.now c.loop-self.source
    c.loop-self.invariant.fed c.fill.new.self c.fill.new.source
    (ap (λ (l : HeldLines). l.ended) (sym c.self.view_is) ∙ c.if-self.false) c.fill.ensures.tells
    c.fill.ensures.count.made c.fill.ensures.offered c.in_err-fill.ensures.fills.gave
    c.in_err-fill.ensures.fills.call c.in_err-fill.field-0.0 c.in_err-fill.ensures.fills.fills (omega arith)
    (omega arith))

pub loop-self-preserved : goal.loop-self-preserved
loop-self-preserved g c =
    let end : c.line_end-end.result ≡ pos c.loop-self.self.held = c.line_end-end.ensures.is ∙ ap pos c.held.ensures in
    let size : length c.held-in-loop-self.result.now ≡ length c.loop-self.self.held =
    ap length c.held-in-loop-self.ensures in
    let bound : pos c.loop-self.self.held ≤ length c.loop-self.self.held = pos-bound c.loop-self.self.held in
    let grown = grows-by (g.S.Source.called) g.S.Source.seen c.loop-self.self c.fill.new.self c.loop-self.source
    c.fill.new.source c.in_ok-fill.ensures.fills in
    let got = grown.0 in
    let more = grown.2 in
    let len : length c.fill.new.self.held ≡ length c.loop-self.self.held + length got =
    ap length more.held ∙ length-append c.loop-self.self.held got in
    let few : length got ≤ piece = more.few in
    record {
      within = omega arith;
      before = λ k less.
          ap (λ (xs : List ℕ). is_line_feed (get_or xs k 0)) more.held
          ∙ ap is_line_feed (get_or_append_left c.loop-self.self.held got 0 k (omega arith))
          ∙ fails_before_first is_line_feed c.loop-self.self.held k 0 (omega arith);
      few = λ start. omega arith;
      fed = grows g.S.Source.called g.S.Source.seen c.args.self.now c.loop-self.self c.args.source.now
          c.loop-self.source c.loop-self.invariant.fed c.fill.new.self c.fill.new.source
          (ap (λ (l : HeldLines). l.ended) (sym c.self.view_is) ∙ c.if-self.false) c.fill.ensures.tells
          c.fill.ensures.count.made c.fill.ensures.offered got grown.1 more;
      whole = λ is.
          let same = c.loop-self.invariant.whole is in
          let first : pos c.args.self.now.held < length c.args.self.now.held = is in
          let here : pos c.loop-self.self.held ≡ pos c.args.self.now.held = ap (λ (l : HeldLines). pos l.held) same.1 in
          let size' : length c.loop-self.self.held ≡ length c.args.self.now.held =
          ap (λ (l : HeldLines). length l.held) same.1 in
          absurd (omega arith);
      count = well-on _ _ _ _ c.loop-self.invariant.count
          (blames-call _ _ false false ⊥ c.in_ok-fill.ensures.count (λ e. absurd e) (λ e. refl)) (λ e. e);
      tells = c.fill.ensures.tells ∙ c.loop-self.invariant.tells;
    }
