-- Streams stay sound.
use Rattle.std.proofs.Common.{◌≡◌, ◌≢◌, ◌≤◌, ◌<◌, ◌+◌, ◌^◌, ◌%◌, ◌==◌, max, nat_lt, ℕ, true, false, List, length}
use Rattle.std.proofs.Common.{if◌then◌else◌, refl, arith, sym, ap, ◌∙◌, suc, [], ◌∷◌}
use Rattle.std.proofs.lemmas.Bool.Decides.{nat_tests}
use Rattle.glk_streams.specs.declared.kinds.FileForm.{FileForm}
use Rattle.glk_streams.specs.declared.kinds.FileForm.TheVariants as forms
use Rattle.glk_streams.specs.declared.kinds.StreamKind.{StreamKind}
use Rattle.glk_streams.specs.declared.kinds.StreamKind.TheVariants as kinds
use Rattle.glk_streams.specs.declared.kinds.Stream.{Stream}
use Rattle.glk_streams.specs.Constants.{write_mode, largest}
use Rattle.glk_streams.specs.Files.{bytes_of_char, byte_at, positions_in, with_bytes, bytes_put}
use Rattle.glk_streams.specs.Stream.{writable, place_count, put_in, after_put, after_puts, end_position, window_in}
use Rattle.glk_streams.specs.Sound.{IsSoundKind, IsSoundStream}
use Rattle.glk_streams.proofs.Contents.{length_spliced}

-- a character put to a content stays within a file's most, and its end within the content's
put_whole : (content bytes : List ℕ) (place : ℕ) → length content ≤ largest → place ≤ length content
    → length (with_bytes content place bytes) ≤ largest
put_whole content bytes place whole there = grind (arith, nat_tests, length_spliced)

put_end : (form : FileForm) (content bytes : List ℕ) (position : ℕ) → position ≤ positions_in form (length content)
    → position + positions_in form (bytes_put (byte_at form position) bytes) ≤ positions_in form
    (length (with_bytes content (byte_at form position) bytes))
put_end forms.Latin content bytes position there = grind (arith, nat_tests, length_spliced)
put_end forms.Wide content bytes position there = grind (arith, nat_tests, length_spliced)
put_end forms.Utf8 content bytes position there = grind (arith, nat_tests, length_spliced)

pub there_in : (form : FileForm) (content : List ℕ) (position : ℕ) → position ≤ positions_in form (length content)
    → byte_at form position ≤ length content
there_in forms.Latin content position there = there
there_in forms.Wide content position there = omega arith
there_in forms.Utf8 content position there = there

memory_end : (position highest places mode : ℕ) → position < places
    → position + 1 ≤ (if mode == write_mode then max highest (position + 1) else places)
memory_end position highest places mode less = grind (arith, nat_tests)

put_kind : (k : StreamKind) (s : Stream) (c : ℕ) → IsSoundKind k → s.position ≤ end_position (record s { kind = k })
    → IsSoundStream (put_in k (record s { kind = k; written = (s.written + 1) % 2 ^ 32 }) c)
put_kind (kinds.Window win) s c kind position = record { kind = kind; position = position }
put_kind (kinds.Memory at len wide) s c kind position =
    let counted : Stream = record s { kind = kinds.Memory at len wide; written = (s.written + 1) % 2 ^ 32 } in
    elim (nat_lt s.position (place_count at len)) as
    (λ b. nat_lt s.position (place_count at len) ≡ b
    → IsSoundStream (if b then record counted {
      position = s.position + 1;
      highest = max s.highest (s.position + 1);
    } else counted)) [
      | true ↦ λ is. record {
        kind = tt;
        position = memory_end s.position s.highest (place_count at len) s.mode (grind (arith, nat_tests, is));
      }
      | false ↦ λ is. record { kind = tt; position = position }
    ] refl
put_kind (kinds.File name content form) s c kind position = record {
  kind = put_whole content (bytes_of_char form c) (byte_at form s.position) kind
      (there_in form content s.position position);
  position = put_end form content (bytes_of_char form c) s.position position;
}

pub sound_put : (s : Stream) (c : ℕ) → IsSoundStream s → IsSoundStream (after_put s c)
unfolding after_put
sound_put s c sound =
    elim (writable s) as (λ b. IsSoundStream
    (if b then put_in s.kind (record s { written = (s.written + 1) % 2 ^ 32 }) c else s)) [
      | true ↦ put_kind s.kind s c sound.kind sound.position
      | false ↦ sound
    ]

-- and where the position alone moves
pub sound_get : (s : Stream) (position read : ℕ) → IsSoundStream s → position ≤ end_position s
    → IsSoundStream (record s { position = position; read = read })
sound_get s position read sound within = record { kind = sound.kind; position = within }

pub sound_move : (s : Stream) (position : ℕ) → IsSoundStream s → position ≤ end_position s
    → IsSoundStream (record s { position = position })
sound_move s position sound within = record { kind = sound.kind; position = within }

-- a stream that goes nowhere
pub sound_taken : (s : Stream) → s.kind ≡ kinds.Memory 0 0 false → s.position ≡ 0 → IsSoundStream s
sound_taken s kind position = record { kind = rw kind tt; position = grind (arith, position) }

-- a window's stream is counted alone
window_kind : (k : StreamKind) (s : Stream) (c : ℕ) → window_in k ≢ 0 → put_in k s c ≡ s
window_kind (kinds.Window win) s c some = refl
window_kind (kinds.Memory at len wide) s c some = absurd (some refl)
window_kind (kinds.File name content form) s c some = absurd (some refl)

puts_off : (s : Stream) (cs : List ℕ) → writable s ≡ false → after_puts s cs ≡ s
unfolding after_puts after_put
puts_off s [] off = refl
puts_off s (c ∷ cs) off = rw off (puts_off s cs off)

puts_on : (s : Stream) (cs : List ℕ) (written : ℕ) → writable s ≡ true → window_in s.kind ≢ 0 → written < 2 ^ 32
    → after_puts (record s { written = written }) cs ≡ record s { written = (written + length cs) % 2 ^ 32 }
unfolding after_puts after_put
puts_on s [] written on some small = let e : (written + 0) % 2 ^ 32 ≡ written = omega arith in rw e refl
puts_on s (c ∷ cs) written on some small =
    let next = (written + 1) % 2 ^ 32 in
    let less : next < 2 ^ 32 = omega arith in
    let sum : (next + length cs) % 2 ^ 32 ≡ (written + suc (length cs)) % 2 ^ 32 = omega arith in
    rw (on, window_kind s.kind (record s { written = next }) c some)
    (puts_on s cs next on some less ∙ ap (λ (n : ℕ). let t : Stream = record s { written = n } in t) sum)

pub window_counts : (s : Stream) (cs : List ℕ) (count : ℕ) → window_in s.kind ≢ 0 → s.written < 2 ^ 32
    → length cs ≡ count → writable s ≡ true → record s { written = (s.written + count) % 2 ^ 32 } ≡ after_puts s cs
window_counts s cs count some small same on = rw (sym same) (sym (puts_on s cs s.written on some small))

pub window_stays : (s : Stream) (cs : List ℕ) → writable s ≡ false → s ≡ after_puts s cs
window_stays s cs off = sym (puts_off s cs off)

pub ruleset window_count = (window_counts, window_stays, sound_get)
