-- What is put to a file is read back.
use Rattle.std.proofs.Common.{◌≡◌, ◌<◌, ◌≤◌, ◌+◌, ◌*◌, ◌/◌, ◌%◌, ◌^◌, nat_lt, nat_le, ℕ}
use Rattle.std.proofs.Common.{true, Some, List, [], ◌∷◌, ◌++◌, append_assoc, length}
use Rattle.std.proofs.Common.{length-append, take, drop, get_or, map, refl, sym, ap, subst, ◌∙◌, arith}
use Rattle.std.proofs.lemmas.Bool.Decides.{nat_tests}
use Rattle.std.proofs.lemmas.Grind.{common_steps}
use Rattle.std.proofs.lemmas.List.{get_or-append-add}
use Rattle.std.proofs.lemmas.Slice.{drop-append-drop}
use Rattle.std.proofs.Math.Seq.{take-append_seam, get_or-append_seam}
use Rattle.gx_words.specs.Numbers.{word, bytes_of_word, spliced}
use Rattle.glk_text.specs.Characters.{latin_of}
use Rattle.glk_text.specs.Utf8.{as_scalar, read}
use Rattle.glk_text.proofs.Reading.{utf8_bytes, read-written}
use Rattle.glk_streams.specs.declared.kinds.FileForm.{FileForm}
use Rattle.glk_streams.specs.declared.kinds.FileForm.TheVariants as forms
use Rattle.glk_streams.specs.declared.kinds.StreamKind.{StreamKind}
use Rattle.glk_streams.specs.declared.kinds.StreamKind.TheVariants as kinds
use Rattle.glk_streams.specs.declared.kinds.Stream.{Stream}
use Rattle.glk_streams.specs.Constants.{largest, seek_start}
use Rattle.glk_streams.specs.Files.{bytes_of_char, byte_at, positions_in, read_in}
use Rattle.glk_streams.specs.Stream.{readable, writable, after_put, after_puts, read_next, after_get, positioned}
use Rattle.glk_streams.specs.Stream.{clamped}
use Rattle.glk_streams.specs.Stream.{end_position}
use Rattle.glk_streams.specs.Sound.{IsSoundStream}
use Rattle.glk_streams.specs.Laws.{kept_in, all_bytes, AreWords, got, FileReadsBack}
use Rattle.glk_streams.proofs.Contents.{length_spliced}
use Rattle.glk_streams.proofs.Sounds.{sound_put, there_in}

-- ---- bytes that are put one after another stand one behind the other

spliced_more : (m put bs : List ℕ) (p : ℕ) → p ≤ length m
    → spliced (spliced m p put) (p + length put) bs ≡ spliced m p (put ++ bs)
spliced_more m put bs p there =
    let front : List ℕ = take p m ++ put in
    let all : List ℕ = front ++ drop (p + length put) m in
    let size : length front ≡ p + length put = grind (arith, common_steps) in
    let whole : spliced m p put ≡ all = sym (append_assoc (take p m) put (drop (p + length put) m)) in
    let kept : take (p + length put) all ≡ front =
    ap (λ (n : ℕ). take n all) (sym size) ∙ take-append_seam front (drop (p + length put) m) in
    let left : drop (p + length put + length bs) all ≡ drop (p + length put + length bs) m =
    drop-append-drop (p + length put) m front (p + length put + length bs) (omega arith) size in
    let e : p + length put + length bs ≡ p + length (put ++ bs) = omega (arith, length-append put bs) in
    ap (λ (x : List ℕ). spliced x (p + length put) bs) whole
    ∙ ap (λ (x : List ℕ). x ++ (bs ++ drop (p + length put + length bs) all)) kept
    ∙ ap (λ (x : List ℕ). front ++ (bs ++ x)) left
    ∙ append_assoc (take p m) put (bs ++ drop (p + length put + length bs) m)
    ∙ ap (λ (x : List ℕ). take p m ++ x) (sym (append_assoc put bs (drop (p + length put + length bs) m)))
    ∙ ap (λ (n : ℕ). take p m ++ ((put ++ bs) ++ drop n m)) e

-- the position behind a character stands behind its bytes
byte_behind : (form : FileForm) (position c : ℕ)
    → byte_at form (position + positions_in form (length (bytes_of_char form c)))
    ≡ byte_at form position + length (bytes_of_char form c)
byte_behind forms.Latin position c = refl
byte_behind forms.Wide position c = omega arith
byte_behind forms.Utf8 position c = refl

-- a file stream with this content, at this position, after so many characters
abbrev file_at : Stream → List ℕ → FileForm → List ℕ → ℕ → ℕ → Stream
file_at s name form content position written =
    record s { kind = kinds.File name content form; position = position; written = written }

put_one : (s : Stream) (name : List ℕ) (form : FileForm) (content : List ℕ) (position written c : ℕ) → writable s ≡ true
    → byte_at form position + length (bytes_of_char form c) ≤ largest
    → after_put (file_at s name form content position written) c
    ≡ file_at s name form (spliced content (byte_at form position) (bytes_of_char form c))
    (position + positions_in form (length (bytes_of_char form c))) ((written + 1) % 2 ^ 32)
unfolding after_put
put_one s name form content position written c on room =
    let there : nat_le (byte_at form position + length (bytes_of_char form c)) largest ≡ true =
    grind (arith, nat_tests, room) in
    rw (on, there) refl

-- what the puts leave: the content with all bytes, and the mode
pub record IsPut (s after : Stream) (name : List ℕ) (form : FileForm) (content : List ℕ) : Type 0 where
  pub kind : after.kind ≡ kinds.File name content form
  pub mode : after.mode ≡ s.mode

puts_all : (s : Stream) (name : List ℕ) (form : FileForm) (content : List ℕ) (position written : ℕ) (cs : List ℕ)
    → writable s ≡ true
    → byte_at form position ≤ length content → byte_at form position + length (all_bytes form cs) ≤ largest
    → IsPut s (after_puts (file_at s name form content position written) cs) name form
    (spliced content (byte_at form position) (all_bytes form cs))
unfolding after_puts
puts_all s name form content position written [] on there room =
    let same : spliced content (byte_at form position) [] ≡ content = grind (arith, common_steps) in
    record { kind = rw same refl; mode = refl }
puts_all s name form content position written (c ∷ cs) on there room =
    let first = bytes_of_char form c in
    let rest = all_bytes form cs in
    let place = byte_at form position in
    let behind = byte_behind form position c in
    let size = length-append first rest in
    let content' = spliced content place first in
    let long = length_spliced content first place there in
    let more : IsPut s (after_puts (file_at s name form content' (position + positions_in form (length first))
    ((written + 1) % 2 ^ 32)) cs) name form
    (spliced content' (byte_at form (position + positions_in form (length first))) rest) =
    puts_all s name form content' (position + positions_in form (length first)) ((written + 1) % 2 ^ 32) cs on
    (omega (arith, behind, long)) (omega (arith, behind, size, room)) in
    let whole : spliced content' (byte_at form (position + positions_in form (length first))) rest
    ≡ spliced content place (first ++ rest) =
    ap (λ (n : ℕ). spliced content' n rest) behind ∙ spliced_more content first rest place there in
    rw (put_one s name form content position written c on (omega (arith, size, room)))
    (record { kind = more.kind ∙ ap (λ (x : List ℕ). kinds.File name x form) whole; mode = more.mode })

-- ---- a character that stands at a position is read

word_here : (out rest : List ℕ) (c : ℕ) → c < 2 ^ 32 → word (out ++ (bytes_of_word c ++ rest)) (length out) ≡ c
word_here out rest c small =
    let all : List ℕ = bytes_of_word c ++ rest in
    let at : (n : ℕ) → get_or (out ++ all) (length out + n) 0 ≡ get_or all n 0 = λ n. get_or-append-add out all n 0 in
    let e0 : length out ≡ length out + 0 = omega arith in
    let e3 : length out + 2 + 1 ≡ length out + 3 = omega arith in
    let b0 : get_or (out ++ all) (length out) 0 ≡ c / 2 ^ 24 % 256 =
    ap (λ (n : ℕ). get_or (out ++ all) n 0) e0 ∙ at 0 in
    let b1 : get_or (out ++ all) (length out + 1) 0 ≡ c / 2 ^ 16 % 256 = at 1 in
    let b2 : get_or (out ++ all) (length out + 2) 0 ≡ c / 2 ^ 8 % 256 = at 2 in
    let b3 : get_or (out ++ all) (length out + 2 + 1) 0 ≡ c % 256 = ap (λ (n : ℕ). get_or (out ++ all) n 0) e3 ∙ at 3 in
    rw (b0, b1, b2, b3) (omega (arith, small))

read_here : (form : FileForm) (out rest : List ℕ) (position c : ℕ) → length out ≡ byte_at form position → c < 2 ^ 32
    → read_in form (out ++ (bytes_of_char form c ++ rest)) position
    ≡ Some (kept_in form c, position + positions_in form (length (bytes_of_char form c)))
read_here forms.Latin out rest position c here small =
    let inside : nat_lt position (length (out ++ (latin_of c ∷ rest))) ≡ true =
    grind (arith, nat_tests, here, length-append out (latin_of c ∷ rest)) in
    let it : get_or (out ++ (latin_of c ∷ rest)) position 0 ≡ latin_of c =
    ap (λ (n : ℕ). get_or (out ++ (latin_of c ∷ rest)) n 0) (sym here)
    ∙ get_or-append_seam out (latin_of c) rest 0 in
    rw (inside, it) refl
read_here forms.Wide out rest position c here small =
    let size = length-append out (bytes_of_word c ++ rest) in
    let inside : nat_lt position (length (out ++ (bytes_of_word c ++ rest)) / 4) ≡ true =
    grind (arith, nat_tests, here, size) in
    let it : word (out ++ (bytes_of_word c ++ rest)) (4 * position) ≡ c =
    ap (λ (n : ℕ). word (out ++ (bytes_of_word c ++ rest)) n) (sym here) ∙ word_here out rest c small in
    rw (inside, it) refl
read_here forms.Utf8 out rest position c here small =
    ap (λ (n : ℕ). read (out ++ (utf8_bytes c ++ rest)) n) (sym here)
    ∙ ap (λ (x : List ℕ). read x (length out)) (sym (append_assoc out (utf8_bytes c) rest))
    ∙ read-written out c rest
    ∙ ap (λ (n : ℕ). Some (as_scalar c, n))
    (length-append out (utf8_bytes c) ∙ ap (λ (n : ℕ). n + length (utf8_bytes c)) here)

next_there : (s : Stream) (name : List ℕ) (form : FileForm) (out rest : List ℕ) (c : ℕ)
    → s.kind ≡ kinds.File name (out ++ (bytes_of_char form c ++ rest)) form → readable s ≡ true
    → length out ≡ byte_at form s.position → c < 2 ^ 32
    → read_next s 0 ≡ Some (kept_in form c, s.position + positions_in form (length (bytes_of_char form c)))
unfolding read_next
next_there s name form out rest c is on here small = rw (on, is) (read_here form out rest s.position c here small)

gets_all : (cs : List ℕ) (s : Stream) (name : List ℕ) (form : FileForm) (out rest : List ℕ)
    → s.kind ≡ kinds.File name (out ++ (all_bytes form cs ++ rest)) form → readable s ≡ true
    → length out ≡ byte_at form s.position → AreWords cs → got (length cs) s ≡ map (kept_in form) cs
unfolding got
gets_all [] s name form out rest is on here small = refl
gets_all (c ∷ cs) s name form out rest is on here small =
    let first = bytes_of_char form c in
    let more = all_bytes form cs in
    let kind : s.kind ≡ kinds.File name (out ++ (first ++ (more ++ rest))) form =
    is ∙ ap (λ (x : List ℕ). kinds.File name (out ++ x) form) (append_assoc first more rest) in
    let next = next_there s name form out (more ++ rest) c kind on here small.0 in
    let s' : Stream = after_get s (Some (kept_in form c, s.position + positions_in form (length first))) in
    let later : s'.kind ≡ kinds.File name ((out ++ first) ++ (more ++ rest)) form =
    kind ∙ ap (λ (x : List ℕ). kinds.File name x form) (sym (append_assoc out first (more ++ rest))) in
    let there : length (out ++ first) ≡ byte_at form s'.position =
    omega (arith, length-append out first, byte_behind form s.position c, here) in
    rw next (ap (λ (x : List ℕ). kept_in form c ∷ x)
    (gets_all cs s' name form (out ++ first) rest later on there small.1))

-- ---- back to where the position was

sound_puts : (s : Stream) (cs : List ℕ) → IsSoundStream s → IsSoundStream (after_puts s cs)
unfolding after_puts
sound_puts s [] sound = sound
sound_puts s (c ∷ cs) sound = sound_puts (after_put s c) cs (sound_put s c sound)

-- setting it comes to a position up to the end
moves_back : (s : Stream) (position : ℕ) → position ≤ end_position s → position < 2 ^ 31
    → positioned s position seek_start ≡ record s { position = position }
unfolding positioned
moves_back s position within small =
    let e : clamped 0 position (end_position s) ≡ position = grind (arith, nat_tests, within, small) in
    ap (λ (n : ℕ). record s { position = n }) e

end_from : (s : Stream) (name content : List ℕ) (form : FileForm) → s.kind ≡ kinds.File name content form
    → end_position s ≡ positions_in form (length content)
end_from s name content form is = rw is refl

positions_more : (form : FileForm) (less more : ℕ) → less ≤ more → positions_in form less ≤ positions_in form more
positions_more forms.Latin less more le = le
positions_more forms.Wide less more le = omega arith
positions_more forms.Utf8 less more le = le

position_small : (form : FileForm) (position : ℕ) → byte_at form position ≤ largest → position < 2 ^ 31
position_small forms.Latin position le = omega arith
position_small forms.Wide position le = omega arith
position_small forms.Utf8 position le = omega arith

pub reads_back : FileReadsBack
reads_back s name content form cs has words =
    let place = byte_at form s.position in
    let bytes = all_bytes form cs in
    let start : s ≡ file_at s name form content s.position s.written =
    ap (λ (k : StreamKind). record s { kind = k }) has.file in
    let position : s.position ≤ positions_in form (length content) = rw has.file at has.sound.position in
    let there : place ≤ length content = there_in form content s.position position in
    let after = after_puts s cs in
    let P : Stream → Type 0 = λ x. IsPut s (after_puts x cs) name form (spliced content place bytes) in
    let put : IsPut s after name form (spliced content place bytes) =
    subst P (sym start) (puts_all s name form content s.position s.written cs has.writes there has.room) in
    let longer : length content ≤ length (spliced content place bytes) =
    omega (arith, length_spliced content bytes place there) in
    let grown = positions_more form (length content) (length (spliced content place bytes)) longer in
    let end = end_from after name (spliced content place bytes) form put.kind in
    let within : s.position ≤ end_position after = omega (arith, end, grown, position) in
    let back = moves_back after s.position within (position_small form s.position (omega (arith, has.room))) in
    let on : readable (record after { position = s.position }) ≡ true = rw put.mode has.reads in
    let size : length (take place content) ≡ place = grind (arith, common_steps, there) in
    rw back (gets_all cs (record after { position = s.position }) name form (take place content)
    (drop (place + length bytes) content) put.kind on size words)
