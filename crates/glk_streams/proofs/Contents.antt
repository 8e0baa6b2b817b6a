-- Characters in a file's content.
use Rattle.std.proofs.Common.{◌≡◌, ◌<◌, ◌≤◌, ◌+◌, ◌-◌, ℕ, List, length, drop, ap, ◌∙◌, inl, inr, arith, length-append}
use Rattle.std.proofs.Common.{length-drop}
use Rattle.std.specs.Char.{encode_utf8}
use Rattle.glk_text.specs.Utf8.{IsReading}
use Rattle.gx_words.specs.Numbers.{spliced}
use Rattle.std.proofs.lemmas.Grind.{common_steps}

-- what is read ends within the bytes
pub reading_end : (bytes : List ℕ) (at v behind : ℕ) → at < length bytes → IsReading bytes at v behind
    → behind ≤ length bytes
reading_end bytes at v behind within (inl formed) =
    let e : length (drop at bytes) ≡ length (encode_utf8 v) + length (drop behind bytes) =
    ap length formed.spelled ∙ length-append (encode_utf8 v) (drop behind bytes) in
    omega (arith, e, length-drop at bytes, length-drop behind bytes, formed.size)
reading_end bytes at v behind within (inr replaced) = omega (arith, replaced.size)

-- a content with bytes over others is as long as it was, or as they reach
pub length_spliced : (content bytes : List ℕ) (place : ℕ) → place ≤ length content
    → length (spliced content place bytes) ≡ place + length bytes + (length content - (place + length bytes))
length_spliced content bytes place there = grind (arith, common_steps)
