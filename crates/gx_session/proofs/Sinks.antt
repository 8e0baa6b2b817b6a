-- What a sink that tells has taken after the sends of a session.
use Rattle.std.proofs.Common.{◌≡◌, ℕ, ◌+◌, List, [], ◌∷◌, ◌++◌, map, length, take, true, Err, refl, ap, subst, sym, ◌∙◌}
use Rattle.std.proofs.Common.{arith, append_assoc, append-nil, length-append}
use Rattle.std.proofs.Math.Seq.{take-append_seam, drop-append_seam}
use Rattle.std.specs.List.{concat}
use Rattle.gx_outside.specs.Chains.{Chain}
use Rattle.gx_outside.specs.Outside.{FlatSink, send_cause}
use Rattle.gx_outside.specs.Sends.{Send, SinkCall}
use Rattle.gx_outside.specs.declared.devices.SendFault.{SendFault}
use Rattle.gx_outside.specs.declared.devices.SendFault.TheVariants as of_send
use Rattle.gx_session.specs.Cuts.{RunCut, by_memory, by_sink, by_shelf, by_source, refused_sends}
use Rattle.gx_session.specs.Runs.{TakesText}
use Rattle.gx_session.specs.Sending.{pending, whole_send}
use Rattle.gx_session.specs.Configurations.{Configuration}
use Rattle.gx_session.proofs.Parts.{IsFront}
use Rattle.gx_session.proofs.Calling.{chain-split}

-- texts that were taken whole
pub record TookWhole (a b : FlatSink) (texts : List (List ℕ)) : Type 0 where
  pub tells : b.tells ≡ a.tells
  pub all : a.tells ≡ true → b.taken ≡ a.taken ++ concat texts

pub took-whole : (a b : FlatSink) (texts : List (List ℕ)) → Chain SinkCall a (map whole_send texts) b
    → TookWhole a b texts
took-whole a b [] same = record {
  tells = ap (λ (s : FlatSink). s.tells) same;
  all = λ t. ap (λ (s : FlatSink). s.taken) same ∙ sym (append-nil a.taken);
}
took-whole a b (x ∷ xs) chain =
    let call = chain.1 in
    let rest = took-whole chain.0 b xs chain.2 in
    record {
      tells = rest.tells ∙ call.tells;
      all = λ t.
          rest.all (call.tells ∙ t) ∙ ap (λ (ys : List ℕ). ys ++ concat xs)
          (call.bytes.taken t ∙ ap (λ (ys : List ℕ). a.taken ++ ys) call.bytes.whole)
          ∙ append_assoc a.taken x (concat xs);
    }

fault-same : (f g : SendFault) → by_sink f ≡ by_sink g → f ≡ g
fault-same f g e = cc

module _ (a b : FlatSink) (m : Configuration) (front : IsFront (concat m.sent) m.world.text) where
  -- no send was refused
  none-refused : (cut : RunCut) → (cut ≡ by_sink of_send.NoMemory → ⊥) → refused_sends cut m ≡ []
      → Chain SinkCall a (map whole_send m.sent ++ refused_sends cut m) b → TakesText a b cut m
  none-refused cut other none chain = record {
    wanted = λ e. absurd (other e);
    count = length (concat m.sent);
    at_least = omega arith;
    at_most = let size = ap length front.1 ∙ length-append (concat m.sent) front.0 in omega arith;
    whole = λ e. refl;
    text_is = λ t.
        (took-whole a b m.sent (subst (λ (sends : List Send). Chain SinkCall a sends b)
        (ap (λ (sends : List Send). map whole_send m.sent ++ sends) none ∙ append-nil (map whole_send m.sent))
        chain)).all t
        ∙ ap (λ (xs : List ℕ). a.taken ++ xs)
        (sym (ap (take (length (concat m.sent))) front.1 ∙ take-append_seam (concat m.sent) front.0));
  }

  -- the last one was
  one-refused : (fault : SendFault) → Chain SinkCall a (map whole_send m.sent ++ refused_sends (by_sink fault) m) b
      → TakesText a b (by_sink fault) m
  one-refused fault chain =
      let refused : Send = (pending m.sent m.world.text, Err fault) in
      let parts = chain-split SinkCall a b (map whole_send m.sent) (refused ∷ []) chain in
      let mid : FlatSink = parts.0 in
      let before = took-whole a mid m.sent parts.1 in
      let last : FlatSink = parts.2.0 in
      let call : SinkCall mid refused last = parts.2.1 in
      let same : b ≡ last = parts.2.2 in
      let more : List ℕ = call.bytes.more in
      let rest : List ℕ = call.bytes.rest in
      let left : pending m.sent m.world.text ≡ front.0 = ap (λ (xs : List ℕ). pending m.sent xs) front.1
      ∙ drop-append_seam (concat m.sent) front.0 in
      let text : m.world.text ≡ (concat m.sent ++ more) ++ rest =
      front.1 ∙ ap (λ (xs : List ℕ). concat m.sent ++ xs) (sym left ∙ call.bytes.front)
      ∙ sym (append_assoc (concat m.sent) more rest) in
      let size : length (concat m.sent ++ more) ≡ length (concat m.sent) + length more =
      length-append (concat m.sent) more in
      let whole : length m.world.text ≡ length (concat m.sent ++ more) + length rest =
      ap length text ∙ length-append (concat m.sent ++ more) rest in
      record {
        wanted = λ e. ap (λ (s : FlatSink). s.calls.wanting) same ∙ call.cause.want
            ∙ ap (λ (f : SendFault). (send_cause {T = Unit {0}} (Err f)).1) (fault-same fault of_send.NoMemory e);
        count = length (concat m.sent ++ more);
        at_least = omega arith;
        at_most = omega arith;
        whole = λ e. absurd cc;
        text_is = λ t.
            ap (λ (s : FlatSink). s.taken) same ∙ call.bytes.taken (before.tells ∙ t)
            ∙ ap (λ (xs : List ℕ). xs ++ more) (before.all t) ∙ append_assoc a.taken (concat m.sent) more
            ∙ ap (λ (xs : List ℕ). a.taken ++ xs)
            (sym (ap (take (length (concat m.sent ++ more))) text ∙ take-append_seam (concat m.sent ++ more) rest));
      }

  by-cut : (cut : RunCut) → Chain SinkCall a (map whole_send m.sent ++ refused_sends cut m) b → TakesText a b cut m
  by-cut by_memory chain = none-refused by_memory (λ e. cc) refl chain
  by-cut (by_sink fault) chain = one-refused fault chain
  by-cut (by_shelf r fault) chain = none-refused (by_shelf r fault) (λ e. cc) refl chain
  by-cut by_source chain = none-refused by_source (λ e. cc) refl chain

  pub takes-front : (cut : RunCut) (sends : List Send) → sends ≡ map whole_send m.sent ++ refused_sends cut m
      → Chain SinkCall a sends b → TakesText a b cut m
  takes-front cut sends is chain = by-cut cut (subst (λ (t : List Send). Chain SinkCall a t b) is chain)
