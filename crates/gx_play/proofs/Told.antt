-- What the jobs asm and list tell, by what their parts answered.
use Rattle.std.proofs.Common.{◌≡◌, ◌≢◌, ◌≤◌, ℕ, List, Result, Ok, Err, IsOk, inl, inr, refl, sym, subst, arith, []}
use Rattle.gx_outside.specs.Sends.{Send}
use Rattle.gx_outside.specs.Outside.{FlatSink}
use Rattle.gx_asm.specs.declared.faults.AsmFault.{AsmFault}
use Rattle.gx_asm.specs.declared.faults.AsmFault.TheVariants as of_text
use Rattle.gx_asm.specs.declared.faults.ListFault.{ListFault}
use Rattle.gx_asm.specs.declared.faults.ListFault.TheVariants as of_code
use Rattle.gx_asm.specs.Faults.{number_in_text, line_in_text, number_in_code, place_in_code}
use Rattle.gx_asm.specs.Stories.{wrapped_code}
use Rattle.gx_session.specs.declared.ended.Ended.{Ended}
use Rattle.gx_session.specs.Constants.{status_ended, status_bad_text, status_no_listing, status_no_memory}
use Rattle.gx_play.specs.Outcomes.{outcome_of_code, outcome_of_listing}
use Rattle.gx_play.specs.Answers.{HasNoMachine, SendsOutput}
use Rattle.gx_play.specs.Loading.{JobTells}

module _ {A : Type 0} (ended : Ended A) where
  -- JOB ASM
  code-unsent : (r : Result (List ℕ) AsmFault) (before : FlatSink) → IsOk r
      → HasNoMachine ended status_no_memory 0 0 0 → JobTells (outcome_of_code r) before before [] ended
  code-unsent (Ok code) before is absent = inr (absent, refl, refl)
  code-unsent (Err fault) before is absent = absurd (cc)

  code-faulty : (r : Result (List ℕ) AsmFault) (before : FlatSink) (fault : AsmFault) → r ≡ Err fault
      → HasNoMachine ended status_bad_text (number_in_text fault) (line_in_text fault) 0
      → JobTells (outcome_of_code r) before before [] ended
  code-faulty r before fault is absent = subst
      (λ (x : Result (List ℕ) AsmFault). JobTells (outcome_of_code x) before before [] ended) (sym is)
      (absent, refl, refl)

  pub code-refused : (r : Result (List ℕ) AsmFault) (before : FlatSink) (fault : AsmFault)
      → (fault ≢ of_text.NoMemory → r ≡ Err fault) → (fault ≡ of_text.NoMemory → IsOk r)
      → (fault ≡ of_text.NoMemory → HasNoMachine ended status_no_memory 0 0 0)
      → (fault ≢ of_text.NoMemory → HasNoMachine ended status_bad_text (number_in_text fault)
      (line_in_text fault) 0)
      → JobTells (outcome_of_code r) before before [] ended
  code-refused r before of_text.NoMemory is ok memory absent = code-unsent r before (ok refl) (memory refl)
  code-refused r before fault is ok memory absent = code-faulty r before fault (is (λ e. cc)) (absent (λ e. cc))

  -- memory ran out before its story was whole
  pub code-unwrapped : (r : Result (List ℕ) AsmFault) (before : FlatSink) (code : List ℕ) → r ≡ Ok code
      → HasNoMachine ended status_no_memory 0 0 0 → JobTells (outcome_of_code r) before before [] ended
  code-unwrapped r before code is absent =
      subst (λ (x : Result (List ℕ) AsmFault). JobTells (outcome_of_code x) before before [] ended) (sym is)
      (inr (absent, refl, refl))

  pub code-sent : (r : Result (List ℕ) AsmFault) (before now : FlatSink) (sends : List Send) (code story : List ℕ)
      → r ≡ Ok code → story ≡ wrapped_code code → SendsOutput status_ended 0 0 0 story before now sends ended
      → JobTells (outcome_of_code r) before now sends ended
  code-sent r before now sends code story is made once =
      subst (λ (x : Result (List ℕ) AsmFault). JobTells (outcome_of_code x) before now sends ended) (sym is)
      (inl (subst (λ (s : List ℕ). SendsOutput status_ended 0 0 0 s before now sends ended) made once))

  -- JOB LIST
  listing-unsent : (r : Result (List ℕ) ListFault) (before : FlatSink) → IsOk r
      → HasNoMachine ended status_no_memory 0 0 0 → JobTells (outcome_of_listing r) before before [] ended
  listing-unsent (Ok text) before is absent = inr (absent, refl, refl)
  listing-unsent (Err fault) before is absent = absurd (cc)

  listing-faulty : (r : Result (List ℕ) ListFault) (before : FlatSink) (fault : ListFault) → r ≡ Err fault
      → HasNoMachine ended status_no_listing (number_in_code fault) (place_in_code fault) 0
      → JobTells (outcome_of_listing r) before before [] ended
  listing-faulty r before fault is absent =
      subst (λ (x : Result (List ℕ) ListFault). JobTells (outcome_of_listing x) before before [] ended) (sym is)
      (absent, refl, refl)

  pub listing-refused : (r : Result (List ℕ) ListFault) (before : FlatSink) (fault : ListFault)
      → (fault ≢ of_code.NoMemory → r ≡ Err fault) → (fault ≡ of_code.NoMemory → IsOk r)
      → (fault ≡ of_code.NoMemory → HasNoMachine ended status_no_memory 0 0 0)
      → (fault ≢ of_code.NoMemory → HasNoMachine ended status_no_listing (number_in_code fault)
      (place_in_code fault) 0)
      → JobTells (outcome_of_listing r) before before [] ended
  listing-refused r before of_code.NoMemory is ok memory absent = listing-unsent r before (ok refl) (memory refl)
  listing-refused r before fault is ok memory absent = listing-faulty r before fault (is (λ e. cc)) (absent (λ e. cc))

  pub listing-sent : (r : Result (List ℕ) ListFault) (before now : FlatSink) (sends : List Send) (text : List ℕ)
      → r ≡ Ok text → SendsOutput status_ended 0 0 0 text before now sends ended
      → JobTells (outcome_of_listing r) before now sends ended
  listing-sent r before now sends text is once =
      subst (λ (x : Result (List ℕ) ListFault). JobTells (outcome_of_listing x) before now sends ended) (sym is)
      (inl once)

-- the numbers that a line shows
pub text-number : (fault : AsmFault) → fault ≢ of_text.NoMemory → number_in_text fault ≤ 4
text-number of_text.Cut not = omega arith
text-number (of_text.BadName line) not = omega arith
text-number (of_text.Count line) not = omega arith
text-number (of_text.BadOperand line) not = omega arith
text-number of_text.NoMemory not = absurd (not refl)

pub code-number : (fault : ListFault) → fault ≢ of_code.NoMemory → number_in_code fault ≤ 5
code-number (of_code.BadFunction at) not = omega arith
code-number (of_code.Cut at) not = omega arith
code-number (of_code.Spelling at) not = omega arith
code-number (of_code.BadOpcode at) not = omega arith
code-number (of_code.BadMode at) not = omega arith
code-number of_code.NoMemory not = absurd (not refl)

pub ruleset numbers = (text-number, code-number)
