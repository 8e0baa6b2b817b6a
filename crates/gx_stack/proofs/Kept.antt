-- What keeps a frame good: a push, a cut above its values, a put behind its header.
use Rattle.std.proofs.Common.{◌≡◌, ◌≤◌, ◌<◌, ◌+◌, ◌-◌, ◌%◌, ◌^◌, ℕ, List, ◌++◌, length, take, drop, ◌*◌, arith, refl}
use Rattle.std.proofs.Common.{subst}
use Rattle.std.proofs.Common.{length-append}
use Rattle.std.proofs.lemmas.Grind.{common_steps}
use Rattle.gx_words.specs.Numbers.{word, spliced}
use Rattle.gx_stack.specs.declared.frames.Frame.{Frame}
use Rattle.gx_stack.specs.Formats.{frame, frame_len}
use Rattle.gx_stack.specs.Held.{IsFormat}
use Rattle.gx_stack.specs.Frames.{IsGood, IsFrame}
use Rattle.gx_stack.specs.declared.stubs.Stub.{Stub}
use Rattle.gx_stack.specs.Stubs.{stub_bytes}
use Rattle.gx_stack.specs.Values.{turned, turned_top}
use Rattle.gx_stack.proofs.Pieces.{length-frame, frame_len_read, locals_pos_read}

-- a frame that was entered is good
pub frame_words : (format : List ℕ) → frame_len format % 4 ≡ 0
frame_words format = omega arith

pub frame_good : (xs format args : List ℕ) → length xs % 4 ≡ 0 → IsFormat format → frame_len format < 2 ^ 32
    → IsGood (xs ++ frame format args) (length xs)
frame_good xs format args whole is fits =
    let long = length-frame format args is in
    let read = frame_len_read xs format args fits in
    let pos = locals_pos_read xs format args fits in
    let four = frame_words format in
    record {
      header = omega (arith, length-append xs (frame format args), long);
      begins = whole;
      aligned = omega (arith, read, four);
      locals = omega (arith, pos);
      order = omega (arith, pos, read);
      whole = omega (arith, length-append xs (frame format args), long, read);
    }

-- words that stay
pub word-append : (xs ys : List ℕ) (a : ℕ) → a + 4 ≤ length xs → word (xs ++ ys) a ≡ word xs a
word-append xs ys a h = grind (arith, common_steps)

pub word-spliced : (xs bytes : List ℕ) (at a : ℕ) → a + 4 ≤ at → at + length bytes ≤ length xs
    → word (spliced xs at bytes) a ≡ word xs a
word-spliced xs bytes at a before there = grind (arith, common_steps)

pub length-spliced : (xs bytes : List ℕ) (at : ℕ) → at + length bytes ≤ length xs
    → length (spliced xs at bytes) ≡ length xs
length-spliced xs bytes at there = grind (arith, common_steps)

pub word-take : (xs : List ℕ) (n a : ℕ) → a + 4 ≤ n → word (take n xs) a ≡ word xs a
word-take xs n a h = grind (arith, common_steps)

pub ruleset cuts = (word-take)

-- good places
pub good_after_push : (xs ys : List ℕ) (fp : ℕ) → IsGood xs fp → IsGood (xs ++ ys) fp
good_after_push xs ys fp good = record {
  header = grind (arith, common_steps);
  begins = good.begins;
  aligned = grind (arith, word-append);
  locals = grind (arith, word-append);
  order = grind (arith, word-append);
  whole = grind (arith, common_steps, word-append);
}

pub good_after_put : (xs bytes : List ℕ) (fp at : ℕ) → IsGood xs fp → fp + 8 ≤ at → at + length bytes ≤ length xs
    → IsGood (spliced xs at bytes) fp
good_after_put xs bytes fp at good past there = record {
  header = grind (arith, length-spliced);
  begins = good.begins;
  aligned = grind (arith, word-spliced);
  locals = grind (arith, word-spliced);
  order = grind (arith, word-spliced);
  whole = grind (arith, length-spliced, word-spliced);
}

pub good_after_cut : (xs : List ℕ) (fp n : ℕ) → IsGood xs fp → fp + word xs fp ≤ n → n ≤ length xs
    → IsGood (take n xs) fp
good_after_cut xs fp n good past there = record {
  header = grind (arith, common_steps, good.header, good.locals, good.order);
  begins = good.begins;
  aligned = grind (arith, word-take, good.aligned, good.locals, good.order);
  locals = grind (arith, word-take, good.header, good.locals, good.order);
  order = grind (arith, word-take, good.header, good.locals, good.order);
  whole = grind (arith, common_steps, word-take, good.header, good.locals, good.order);
}

-- frames
pub frame_after_push : (xs ys : List ℕ) (f : Frame) → IsFrame xs f → IsFrame (xs ++ ys) f
frame_after_push xs ys f is =
    let good = is.good in
    record {
      good = good_after_push xs ys f.fp good;
      locals = grind (arith, word-append, is.locals, good.header);
      values = grind (arith, word-append, is.values, good.header);
    }

pub frame_after_put : (xs bytes : List ℕ) (f : Frame) (at : ℕ) → IsFrame xs f → f.locals ≤ at
    → at + length bytes ≤ length xs → IsFrame (spliced xs at bytes) f
frame_after_put xs bytes f at is past there =
    let good = is.good in
    let behind : f.fp + 8 ≤ at = omega (arith, is.locals, good.locals) in
    record {
      good = good_after_put xs bytes f.fp at good behind there;
      locals = grind (arith, word-spliced, is.locals, good.header);
      values = grind (arith, word-spliced, is.values, good.header);
    }

pub frame_after_cut : (xs : List ℕ) (f : Frame) (n : ℕ) → IsFrame xs f → f.values ≤ n → n ≤ length xs
    → IsFrame (take n xs) f
frame_after_cut xs f n is past there =
    let good = is.good in
    let top : f.fp + word xs f.fp ≤ n = omega (arith, is.values) in
    record {
      good = good_after_cut xs f.fp n good top there;
      locals = grind (arith, word-take, is.locals, good.header, good.locals, good.order);
      values = grind (arith, word-take, is.values, good.header, good.locals, good.order);
    }

pub frame_after_turn : (xs : List ℕ) (f : Frame) (n up : ℕ) → IsFrame xs f → f.values + 4 * n ≤ length xs
    → IsFrame (turned_top xs n up) f
frame_after_turn xs f n up is room = frame_after_push (take (length xs - 4 * n) xs)
    (turned (drop (length xs - 4 * n) xs) (4 * up)) f
    (frame_after_cut xs f (length xs - 4 * n) is (omega arith) (omega arith))

-- a frame above a stub
stub_bytes_len : (p : Stub) → length (stub_bytes p) ≡ 16
unfolding stub_bytes
stub_bytes_len p = refl

above_stub : (xs : List ℕ) (p : Stub) → length (xs ++ stub_bytes p) ≡ length xs + 16
above_stub xs p = omega (arith, length-append xs (stub_bytes p), stub_bytes_len p)

pub length-called : (xs : List ℕ) (p : Stub) (format args : List ℕ) → IsFormat format
    → length ((xs ++ stub_bytes p) ++ frame format args) ≡ length xs + (16 + frame_len format)
length-called xs p format args is = omega
    (arith, length-append (xs ++ stub_bytes p) (frame format args), above_stub xs p, length-frame format args is)

pub called_good : (xs : List ℕ) (p : Stub) (format args : List ℕ) → length xs % 4 ≡ 0 → IsFormat format
    → frame_len format < 2 ^ 32 → IsGood ((xs ++ stub_bytes p) ++ frame format args) (length xs + 16)
called_good xs p format args whole is fits =
    let long = above_stub xs p in
    let aligned : length (xs ++ stub_bytes p) % 4 ≡ 0 = omega (arith, long, whole) in
    subst (IsGood ((xs ++ stub_bytes p) ++ frame format args)) long
    (frame_good (xs ++ stub_bytes p) format args aligned is fits)

pub frame_after_call : (xs ys zs : List ℕ) (f : Frame) → IsFrame xs f → IsFrame ((xs ++ ys) ++ zs) f
frame_after_call xs ys zs f is = frame_after_push (xs ++ ys) zs f (frame_after_push xs ys f is)

pub ruleset called_frames = (called_good, length-called, frame_words, frame_after_call)

pub ruleset entered_frames = (frame_good, frame_len_read, locals_pos_read, length-frame, frame_words, frame_after_push)

pub ruleset puts = (frame_after_put, length-spliced)
