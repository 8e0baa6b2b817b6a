-- The characters of a buffer that change case.
use Rattle.std.proofs.Common.{◌≡◌, ◌≢◌, ◌<◌, ◌*◌, nat_lt, ℕ, true, List, length, refl, ap, subst, ◌∙◌, arith, Ok, Err}
use Rattle.std.proofs.Common.{IsOk, IfOk, IsTrue, Result, [], ◌∷◌, suc, inr}
use Rattle.std.proofs.lemmas.Bool.Decides.{nat_tests}
use Rattle.std.proofs.lemmas.List.{append-nil, length-map}
use Rattle.gx_words.specs.declared.faults.Fault.{Fault}
use Rattle.gx_words.specs.declared.faults.Fault.TheVariants.{NoMemory}
use Rattle.gx_state.specs.Flat.{FlatState}
use Rattle.gx_state.specs.declared.effects.Reply.{Reply}
use Rattle.glk_streams.specs.declared.kinds.Places.{Places}
use Rattle.glk_world.specs.World.{FlatWorld, Outcome, on_world, arg, MakesCall}
use Rattle.glk_replies.specs.Parts.{can_read, can_lay, numbers_in, reply_filling, MayWant}
use Rattle.gx_state.specs.Replies.{IsReply}
use Rattle.glk_replies.proofs.Counting.{count_numbers}
use Rattle.glk_text_calls.proofs.Puts.{wanted_fits}
use Rattle.glk_text_calls.specs.declared.characters.Case.{Case}
use Rattle.glk_text_calls.specs.Characters.{changed, recased, buffer_of, buffer_to_case}

-- all of them were read
pub case_count : (width at count : ℕ) (memory chars : List ℕ) → chars ≡ numbers_in width memory at count
    → length chars ≡ count
case_count width at count memory chars is = ap (λ (cs : List ℕ). length cs) is ∙ count_numbers width at count memory

pub recased_length : (first others : Case) (chars : List ℕ) → length (recased first others chars) ≡ length chars
recased_length first others [] = refl
recased_length first others (c ∷ cs) = ap (λ n. suc n) (length-map cs (changed others))

pub case_fits : (f : FlatState) (value : ℕ) (p : Places) (first others : Case) (width at : ℕ) (memory chars : List ℕ)
    → chars ≡ numbers_in width memory at p.count → (r : Result Reply Fault) → p.width ≡ 4 → can_lay f p ≡ Ok tt
    → MayWant (0 < p.count) (λ (reply : Reply). reply) r (Ok (reply_filling value p (recased first others chars)))
    → (room : ℕ) → IfOk r (IsReply f room)
case_fits f value p first others width at memory chars is r four lays filled room =
    wanted_fits f value p (recased first others chars) (0 < p.count) r (inr four)
    (omega (arith, case_count width at p.count memory chars is, recased_length first others chars)) lays filled room

module _ (w : FlatWorld) (f : FlatState) (first others : Case) (args : List ℕ) (p : Places) (is : p ≡ buffer_of args)
  where
    abbrev made : Outcome Reply
    made = buffer_to_case w.scene f first others args

    -- places that can't be read
    pub case_unread : {wants : Type 0} (n : ℕ) (e : Fault) → n ≡ p.count
        → (can_read f p.at (4 * n) ≡ Err e) × (e ≢ NoMemory) → MakesCall wants (Err e) w w made
    unfolding buffer_to_case
    case_unread n e same reads =
        let at_buffer : can_read f (arg args 0) (4 * (buffer_of args).count) ≡ Err e =
        subst (λ (q : Places). can_read f q.at (4 * q.count) ≡ Err e) is
        (subst (λ (k : ℕ). can_read f p.at (4 * k) ≡ Err e) same reads.0) in
        (λ other. refl, (λ other. rw at_buffer refl, λ none. absurd (reads.1 none)))

    module _ (n : ℕ) (same : n ≡ p.count) (reads : can_read f p.at (4 * n) ≡ Ok tt) where
      at_read : can_read f (arg args 0) (4 * (buffer_of args).count) ≡ Ok tt
      at_read = subst (λ (q : Places). can_read f q.at (4 * q.count) ≡ Ok tt) is
          (subst (λ (k : ℕ). can_read f p.at (4 * k) ≡ Ok tt) same reads)

      -- places that can't be written
      pub case_refused : {wants : Type 0} (e : Fault) → (can_lay f p ≡ Err e) × (e ≢ NoMemory)
          → MakesCall wants (Err e) w w made
      unfolding buffer_to_case
      case_refused e lays =
          let at_lay : can_lay f (buffer_of args) ≡ Err e = subst (λ (q : Places). can_lay f q ≡ Err e) is lays.0 in
          (λ other. refl, (λ other. rw (at_read, at_lay) refl, λ none. absurd (lays.1 none)))

      module _ (lays : can_lay f p ≡ Ok tt) where
        at_lay : can_lay f (buffer_of args) ≡ Ok tt
        at_lay = subst (λ (q : Places). can_lay f q ≡ Ok tt) is lays

        case_fine : IsOk (on_world w made)
        unfolding buffer_to_case
        case_fine = rw (at_read, at_lay) refl

        -- want of memory behind the looks
        pub case_wanted : (now : FlatWorld) → 0 < p.count
            → MakesCall (IsTrue (nat_lt 0 (buffer_of args).count)) (Err NoMemory) w now made
        case_wanted now some =
            let placed : 0 < (buffer_of args).count = subst (λ (q : Places). 0 < q.count) is some in
            let counted : nat_lt 0 (buffer_of args).count ≡ true = grind (arith, nat_tests, placed) in
            (λ other. absurd (other refl), (λ other. absurd (other refl), λ none. (counted, case_fine)))

        case_filled : (memory chars : List ℕ) (reply : Reply) (at value : ℕ) → memory ≡ f.memory
            → chars ≡ numbers_in 4 memory at p.count
            → reply ≡ reply_filling value p (recased first others chars) → at ≡ arg args 0 → value ≡ arg args 2
            → on_world w made ≡ Ok (w, reply)
        unfolding buffer_to_case
        case_filled memory chars reply at value unchanged read filled first_arg last_arg =
            let read_there : chars ≡ numbers_in 4 f.memory (arg args 0) p.count =
            subst (λ (n : ℕ). chars ≡ numbers_in 4 f.memory n p.count) first_arg
            (subst (λ (m : List ℕ). chars ≡ numbers_in 4 m at p.count) unchanged read) in
            let read_all : chars ≡ numbers_in 4 f.memory (arg args 0) (buffer_of args).count =
            subst (λ (q : Places). chars ≡ numbers_in 4 f.memory (arg args 0) q.count) is read_there in
            let text : List ℕ = recased first others chars in
            let at_text : text ≡ recased first others (numbers_in 4 f.memory (arg args 0) (buffer_of args).count) =
            ap (λ (cs : List ℕ). recased first others cs) read_all in
            let at_buffer : reply ≡ reply_filling (arg args 2) (buffer_of args) text =
            subst (λ (q : Places). reply ≡ reply_filling (arg args 2) q text) is
            (subst (λ (n : ℕ). reply ≡ reply_filling n p text) last_arg filled) in
            rw (at_read, at_lay, at_buffer, at_text, append-nil w.text) refl

        -- the reply, or want of memory for it
        pub case_ends : (memory chars : List ℕ) (r : Result Reply Fault) (at value : ℕ) → memory ≡ f.memory
            → chars ≡ numbers_in 4 memory at p.count
            → MayWant (0 < p.count) (λ (reply : Reply). reply) r
            (Ok (reply_filling value p (recased first others chars))) → at ≡ arg args 0 → value ≡ arg args 2
            → MakesCall (IsTrue (nat_lt 0 (buffer_of args).count)) r w w made
        case_ends memory chars (Ok reply) at value unchanged read filled first_arg last_arg =
            case_filled memory chars reply at value unchanged read (cc) first_arg last_arg
        case_ends memory chars (Err e) at value unchanged read filled first_arg last_arg = (
          λ other. absurd (let no = filled.0 other in cc),
          (
            λ other. absurd (let no = filled.0 other in cc),
            λ none. (case_wanted w (filled.1 none).0).1.1 refl,
          ),
        )
