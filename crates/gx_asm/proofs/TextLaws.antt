-- A text has a code exactly where it spells it, and the turns of the loop over its lines.
use Rattle.std.proofs.Common.{◌≡◌, ◌≢◌, ◌+◌, ◌-◌, ◌==◌, ◌&&◌, not, if◌then◌else◌, ℕ, Bool, true, false, List, [], ◌∷◌}
use Rattle.std.proofs.Common.{◌++◌, append_assoc, length, map, get_or, slice_index, All, ◌⊎◌, inl, inr, Result, Ok}
use Rattle.std.proofs.Common.{Err, refl, sym, ap, subst, ◌∙◌, arith, length-append}
use Rattle.std.specs.List.{slice_split, flat_map}
use Rattle.std.proofs.lemmas.Bool.{eqb-true, eq-eqb, ne_eqb, not-false}
use Rattle.std.proofs.lemmas.List.{append-nil}
use Rattle.std.proofs.lemmas.List.Elements.{All-nil, All-cons, All-head, All-tail}
use Rattle.gx_words.specs.Results.{◌>>=◌}
use Rattle.gx_asm.specs.declared.faults.AsmFault.{AsmFault}
use Rattle.gx_asm.specs.declared.faults.AsmFault.TheVariants as of_text
use Rattle.gx_asm.specs.declared.faults.LineFault.{LineFault}
use Rattle.gx_asm.specs.declared.faults.LineFault.TheVariants as of_line
use Rattle.gx_asm.specs.Instructions.{WrittenInstruction, IsWritten, Spells, bytes_of, instruction_line}
use Rattle.gx_words.specs.Constants.{line_feed}
use Rattle.gx_asm.specs.Texts.{at_line, in_line, instruction_in, code_of, lacks_line_feed, assembled, is_line_feed}
use Rattle.gx_asm.proofs.Words.{behind, split_first, split_some, split_ended, parts_join}
use Rattle.gx_asm.proofs.Reading.{body_of, body_lacks, line_of_body, line_read, line_written}

-- ---- lines and their code

abbrev then_code : ℕ → Result WrittenInstruction LineFault → Result (List ℕ) AsmFault → Result (List ℕ) AsmFault
then_code number first rest = at_line number first >>= λ w. rest >>= λ code. Ok (bytes_of w ++ code)

code_step : (number : ℕ) (line next : List ℕ) (rest : List (List ℕ))
    → code_of number (line ∷ next ∷ rest) ≡ then_code number (instruction_in line) (code_of (number + 1) (next ∷ rest))
unfolding code_of
code_step number line next rest = refl

then_made : (number : ℕ) (first : Result WrittenInstruction LineFault) (rest : Result (List ℕ) AsmFault)
    (w : WrittenInstruction) (code : List ℕ)
    → first ≡ Ok w → rest ≡ Ok code → then_code number first rest ≡ Ok (bytes_of w ++ code)
then_made number first rest w code a b = rw (a, b) refl

-- the lines of instructions have their bytes
code_read : (ws : List WrittenInstruction) (number : ℕ) → All IsWritten ws
    → code_of number (slice_split is_line_feed (flat_map instruction_line ws)) ≡ Ok (flat_map bytes_of ws)
unfolding code_of
code_read [] number each = refl
code_read (w ∷ ws) number each =
    let more = flat_map instruction_line ws in
    let lines : instruction_line w ++ more ≡ body_of w ++ line_feed ∷ more =
    ap (λ (l : List ℕ). l ++ more) (line_of_body w) ∙ append_assoc (body_of w) (line_feed ∷ []) more in
    let some = split_some line_feed more in
    let split : slice_split is_line_feed (instruction_line w ++ more) ≡ body_of w ∷ some.0 ∷ some.1 =
    ap (slice_split is_line_feed) lines ∙ split_first line_feed (body_of w) more (body_lacks w)
    ∙ ap (λ (ls : List (List ℕ)). body_of w ∷ ls) some.2 in
    ap (code_of number) split
    ∙ then_made number (instruction_in (body_of w)) (code_of (number + 1) (some.0 ∷ some.1)) w (flat_map bytes_of ws)
    (line_read w (All-head IsWritten w ws each))
    (ap (code_of (number + 1)) (sym some.2) ∙ code_read ws (number + 1) (All-tail IsWritten w ws each))

-- instructions of which these are the lines without their ends, and the code
record Said (lines : List (List ℕ)) (code : List ℕ) : Type 0 where
  instructions : List WrittenInstruction
  each : All IsWritten instructions
  lines_are : map body_of instructions ≡ lines
  bytes_are : flat_map bytes_of instructions ≡ code

record Told (first : Result WrittenInstruction LineFault) (rest : Result (List ℕ) AsmFault)
    (code : List ℕ) : Type 0 where
  here : WrittenInstruction
  there : List ℕ
  first_is : first ≡ Ok here
  rest_is : rest ≡ Ok there
  all_is : bytes_of here ++ there ≡ code

told : (number : ℕ) (first : Result WrittenInstruction LineFault) (rest : Result (List ℕ) AsmFault) (code : List ℕ)
    → then_code number first rest ≡ Ok code → Told first rest code
told number (Ok w) (Ok more) code is = record { here = w; there = more; first_is = refl; rest_is = refl; all_is = cc }
told number (Ok w) (Err e) code is = absurd cc
told number (Err e) rest code is = absurd cc

said_more : (line : List ℕ) (lines : List (List ℕ)) (w : WrittenInstruction) (there code : List ℕ)
    → instruction_in line ≡ Ok w → bytes_of w ++ there ≡ code → Said lines there → Said (line ∷ lines) code
said_more line lines w there code is all rest =
    let h = line_written line w is in
    record {
      instructions = w ∷ rest.instructions;
      each = All-cons IsWritten w rest.instructions h.0 rest.each;
      lines_are = ap (λ (l : List ℕ). l ∷ map body_of rest.instructions) (sym h.1)
          ∙ ap (λ (ls : List (List ℕ)). line ∷ ls) rest.lines_are;
      bytes_are = ap (λ (bs : List ℕ). bytes_of w ++ bs) rest.bytes_are ∙ all;
    }

code_written : (lines : List (List ℕ)) (number : ℕ) (code : List ℕ) → code_of number (lines ++ [] ∷ []) ≡ Ok code
    → Said lines code
unfolding code_of
code_written [] number code is = record {
  instructions = [];
  each = All-nil IsWritten;
  lines_are = refl;
  bytes_are = cc;
}
code_written (line ∷ []) number code is =
    let t = told number (instruction_in line) (code_of (number + 1) ([] ∷ [])) code is in
    said_more line [] t.here t.there code t.first_is t.all_is (code_written [] (number + 1) t.there t.rest_is)
code_written (line ∷ next ∷ rest) number code is =
    let t = told number (instruction_in line) (code_of (number + 1) (next ∷ (rest ++ [] ∷ []))) code is in
    said_more line (next ∷ rest) t.here t.there code t.first_is t.all_is
    (code_written (next ∷ rest) (number + 1) t.there t.rest_is)

line_onto : (w : WrittenInstruction) (more : List ℕ) → instruction_line w ++ more ≡ body_of w ++ line_feed ∷ more
line_onto w more = ap (λ (l : List ℕ). l ++ more) (line_of_body w) ∙ append_assoc (body_of w) (line_feed ∷ []) more

-- lines between line feeds, and one at the end
ended_lines : (w : WrittenInstruction) (ws : List WrittenInstruction)
    → (body_of w ++ behind line_feed (map body_of ws)) ++ line_feed ∷ [] ≡ flat_map instruction_line (w ∷ ws)
ended_lines w [] = ap (λ (l : List ℕ). l ++ line_feed ∷ []) (append-nil (body_of w)) ∙ sym (line_onto w [])
ended_lines w (v ∷ vs) =
    append_assoc (body_of w) (line_feed ∷ (body_of v ++ behind line_feed (map body_of vs))) (line_feed ∷ [])
    ∙ ap (λ (l : List ℕ). body_of w ++ line_feed ∷ l) (ended_lines v vs)
    ∙ sym (line_onto w (flat_map instruction_line (v ∷ vs)))

-- ---- the end of a text

abbrev Ended : List ℕ → Type 0
Ended text = (text ≡ []) ⊎ ((front : List ℕ) × (text ≡ front ++ line_feed ∷ []))

ends_on : (x : ℕ) (xs : List ℕ) → get_or (x ∷ xs) (length xs) 0 ≡ line_feed
    → (front : List ℕ) × (x ∷ xs ≡ front ++ line_feed ∷ [])
ends_on x [] is = ([], ap (λ (y : ℕ). y ∷ []) is)
ends_on x (y ∷ ys) is =
    let rest = ends_on y ys is in
    (x ∷ rest.0, ap (λ (l : List ℕ). x ∷ l) rest.1)

last_is : (x : ℕ) (xs : List ℕ) → (not (length (x ∷ xs) == 0) && not
    (slice_index (x ∷ xs) (length (x ∷ xs) - 1) == line_feed)) ≡ false
    → get_or (x ∷ xs) (length xs) 0 ≡ line_feed
last_is x xs whole =
    let e : length (x ∷ xs) - 1 ≡ length xs = omega arith in
    let some : (length (x ∷ xs) == 0) ≡ false = ne_eqb (length (x ∷ xs)) 0 (λ none. omega (arith, none)) in
    let h = rw (some, e) at whole in
    eqb-true (get_or (x ∷ xs) (length xs) 0) line_feed (not-false (get_or (x ∷ xs) (length xs) 0 == line_feed) h)

uncut_ended : (text : List ℕ) → lacks_line_feed text ≡ false → Ended text
uncut_ended [] whole = inl refl
uncut_ended (x ∷ xs) whole = inr (ends_on x xs (last_is x xs whole))

last_of : (front : List ℕ) → get_or (front ++ line_feed ∷ []) (length front) 0 ≡ line_feed
last_of [] = refl
last_of (x ∷ front) = last_of front

ended_uncut : (front : List ℕ) → lacks_line_feed (front ++ line_feed ∷ []) ≡ false
ended_uncut front =
    let len : length (front ++ line_feed ∷ []) - 1 ≡ length front =
    omega (arith, length-append front (line_feed ∷ [])) in
    let test : (slice_index (front ++ line_feed ∷ []) (length front) == line_feed) ≡ true =
    eq-eqb _ _ (last_of front) in
    rw (len, test) (grind arith)

lines_ended : (ws : List WrittenInstruction) → Ended (flat_map instruction_line ws)
lines_ended [] = inl refl
lines_ended (w ∷ ws) =
    elim (lines_ended ws) [
      | inl none ↦ inr (
        body_of w,
        line_onto w (flat_map instruction_line ws)
            ∙ ap (λ (l : List ℕ). body_of w ++ line_feed ∷ l) none,
      )
      | inr h ↦ inr (
        instruction_line w ++ h.0,
        ap (λ (l : List ℕ). instruction_line w ++ l) h.1
            ∙ sym (append_assoc (instruction_line w) h.0 (line_feed ∷ [])),
      )
    ]

lines_uncut : (text : List ℕ) → Ended text → lacks_line_feed text ≡ false
lines_uncut text (inl none) = ap lacks_line_feed none
lines_uncut text (inr h) = ap lacks_line_feed h.1 ∙ ended_uncut h.0

-- ---- a text

assembled_whole : (text : List ℕ) → lacks_line_feed text ≡ false
    → assembled text ≡ code_of 1 (slice_split is_line_feed text)
unfolding assembled
assembled_whole text whole = rw whole refl

uncut_by : (b : Bool) (text code : List ℕ) → lacks_line_feed text ≡ b
    → (if b then Err of_text.Cut else code_of 1 (slice_split is_line_feed text)) ≡ Ok code
    → lacks_line_feed text ≡ false
uncut_by true text code cut is = absurd cc
uncut_by false text code cut is = cut

spelled_from : (first : List ℕ) (parts : List (List ℕ)) (text code : List ℕ)
    → text ≡ (first ++ behind line_feed parts) ++ line_feed ∷ [] → (said : Said (first ∷ parts) code)
    → (ws : List WrittenInstruction) → said.instructions ≡ ws → Spells text code
spelled_from first parts text code is said [] none =
    absurd (let h = ap (map body_of) none in let e = said.lines_are in cc)
spelled_from first parts text code is said (w ∷ ws) some =
    let lines : body_of w ∷ map body_of ws ≡ first ∷ parts = ap (map body_of) (sym some) ∙ said.lines_are in
    let head : body_of w ≡ first = cc in
    let tail : map body_of ws ≡ parts = cc in
    record {
      instructions = w ∷ ws;
      each = subst (All IsWritten) some said.each;
      lines =
          is ∙ ap (λ (l : List ℕ). (l ++ behind line_feed parts) ++ line_feed ∷ []) (sym head)
          ∙ ap (λ (ls : List (List ℕ)). (body_of w ++ behind line_feed ls) ++ line_feed ∷ []) (sym tail)
          ∙ ended_lines w ws;
      bytes = sym said.bytes_are ∙ ap (flat_map bytes_of) some;
    }

spelled_ended : (text code : List ℕ) → Ended text → code_of 1 (slice_split is_line_feed text) ≡ Ok code
    → Spells text code
unfolding code_of
spelled_ended text code (inl none) is =
    let h : Ok [] ≡ Ok code = sym (ap (λ (t : List ℕ). code_of 1 (slice_split is_line_feed t)) none) ∙ is in
    record { instructions = []; each = All-nil IsWritten; lines = none; bytes = cc }
spelled_ended text code (inr h) is =
    let some = split_some line_feed h.0 in
    let lines : slice_split is_line_feed text ≡ (some.0 ∷ some.1) ++ [] ∷ [] =
    ap (slice_split is_line_feed) h.1 ∙ split_ended line_feed h.0 ∙ ap (λ (ls : List (List ℕ)). ls ++ [] ∷ []) some.2 in
    let said = code_written (some.0 ∷ some.1) 1 code (sym (ap (code_of 1) lines) ∙ is) in
    spelled_from some.0 some.1 text code (h.1 ∙ ap (λ (l : List ℕ). l ++ line_feed ∷ [])
    (parts_join line_feed h.0 some.0 some.1 some.2)) said said.instructions refl

-- a text has a code exactly where it spells it
pub assembled_spells : (text code : List ℕ) → (assembled text ≡ Ok code) → Spells text code
unfolding assembled
assembled_spells text code is =
    let whole = uncut_by (lacks_line_feed text) text code refl is in
    spelled_ended text code (uncut_ended text whole) (sym (assembled_whole text whole) ∙ is)

pub spelled_assembles : (text code : List ℕ) → Spells text code → assembled text ≡ Ok code
spelled_assembles text code s =
    let whole : lacks_line_feed text ≡ false =
    lines_uncut text (subst Ended (sym s.lines) (lines_ended s.instructions)) in
    assembled_whole text whole ∙ ap (λ (t : List ℕ). code_of 1 (slice_split is_line_feed t)) s.lines
    ∙ code_read s.instructions 1 s.each ∙ ap (λ (bs : List ℕ). Ok bs) (sym s.bytes)

-- ---- the turns of the loop over the lines

-- a code behind what was there already
abbrev pub behind_code : List ℕ → Result (List ℕ) AsmFault → Result (List ℕ) AsmFault
behind_code done r = r >>= λ more. Ok (done ++ more)

behind_nothing : (r : Result (List ℕ) AsmFault) → behind_code [] r ≡ r
behind_nothing (Ok more) = refl
behind_nothing (Err e) = refl

-- before the first line
pub none_done : (text : List ℕ) → lacks_line_feed text ≡ false
    → behind_code [] (code_of 1 (slice_split is_line_feed text)) ≡ assembled text
none_done text whole = behind_nothing (code_of 1 (slice_split is_line_feed text)) ∙ sym (assembled_whole text whole)

behind_then : (done : List ℕ) (number : ℕ) (first : Result WrittenInstruction LineFault)
    (rest : Result (List ℕ) AsmFault) (w : WrittenInstruction) → first ≡ Ok w
    → behind_code (done ++ bytes_of w) rest ≡ behind_code done (then_code number first rest)
behind_then done number first (Ok more) w is = rw is (ap (λ (bs : List ℕ). Ok bs) (append_assoc done (bytes_of w) more))
behind_then done number first (Err e) w is = rw is refl

fault_then : (done : List ℕ) (number : ℕ) (first : Result WrittenInstruction LineFault)
    (rest : Result (List ℕ) AsmFault) (e : LineFault) → first ≡ Err e
    → behind_code done (then_code number first rest) ≡ Err (in_line number e)
fault_then done number first rest e is = rw is refl

-- a line that says an instruction
pub line_done : (text rest line after done : List ℕ) (number : ℕ) (w : WrittenInstruction)
    → slice_split is_line_feed rest ≡ line ∷ slice_split is_line_feed after → instruction_in line ≡ Ok w
    → behind_code done (code_of number (slice_split is_line_feed rest)) ≡ assembled text
    → behind_code (done ++ bytes_of w) (code_of (number + 1) (slice_split is_line_feed after)) ≡ assembled text
line_done text rest line after done number w split is so_far =
    let some = split_some line_feed after in
    let lines : slice_split is_line_feed rest ≡ line ∷ some.0 ∷ some.1 =
    split ∙ ap (λ (ls : List (List ℕ)). line ∷ ls) some.2 in
    ap (λ (ls : List (List ℕ)). behind_code (done ++ bytes_of w) (code_of (number + 1) ls)) some.2
    ∙ behind_then done number (instruction_in line) (code_of (number + 1) (some.0 ∷ some.1)) w is
    ∙ ap (behind_code done) (sym (code_step number line some.0 some.1))
    ∙ ap (λ (ls : List (List ℕ)). behind_code done (code_of number ls)) (sym lines) ∙ so_far

-- one that says none
pub line_refused : (text rest line after done : List ℕ) (number : ℕ) (e : LineFault)
    → slice_split is_line_feed rest ≡ line ∷ slice_split is_line_feed after → instruction_in line ≡ Err e
    → behind_code done (code_of number (slice_split is_line_feed rest)) ≡ assembled text
    → assembled text ≡ Err (in_line number e)
line_refused text rest line after done number e split is so_far =
    let some = split_some line_feed after in
    let lines : slice_split is_line_feed rest ≡ line ∷ some.0 ∷ some.1 =
    split ∙ ap (λ (ls : List (List ℕ)). line ∷ ls) some.2 in
    sym so_far ∙ ap (λ (ls : List (List ℕ)). behind_code done (code_of number ls)) lines
    ∙ ap (behind_code done) (code_step number line some.0 some.1)
    ∙ fault_then done number (instruction_in line) (code_of (number + 1) (some.0 ∷ some.1)) e is

-- behind the last line
pub lines_done : (text rest done : List ℕ) (number : ℕ) → slice_split is_line_feed rest ≡ rest ∷ []
    → behind_code done (code_of number (slice_split is_line_feed rest)) ≡ assembled text → assembled text ≡ Ok done
unfolding code_of
lines_done text rest done number split so_far =
    sym so_far ∙ ap (λ (ls : List (List ℕ)). behind_code done (code_of number ls)) split
    ∙ ap (λ (bs : List ℕ). Ok bs) (append-nil done)

pub no_want : (e : LineFault) (number : ℕ) → in_line number e ≢ of_text.NoMemory
no_want of_line.BadName number is = absurd cc
no_want of_line.Count number is = absurd cc
no_want of_line.BadOperand number is = absurd cc

-- a text that is cut
pub text_cut : (text : List ℕ) → lacks_line_feed text ≡ true → assembled text ≡ Err of_text.Cut
unfolding assembled
text_cut text cut = rw cut refl
