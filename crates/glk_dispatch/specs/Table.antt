-- The table of the calls of Glk (Glk 0.7.5, "The Dispatch Layer").
use Rattle.std.specs.Prelude.{◌==◌, ◌&&◌, ◌||◌, nat_le, ℕ, Bool, List, ◌++◌, Option, find}
use Rattle.std.specs.Int.{is_in_range}
use Rattle.glk_dispatch.specs.declared.table.Selector.{Selector}
use Rattle.glk_dispatch.specs.CallRows.{CallRow}
use Rattle.glk_dispatch.specs.ObjectCalls.{window_calls, stream_calls}
use Rattle.glk_dispatch.specs.TextCalls.{text_calls, event_calls, unicode_calls}

-- in rising order of selector
abbrev pub call_table : List CallRow
call_table = window_calls ++ (stream_calls ++ (text_calls ++ (event_calls ++ unicode_calls)))

-- the one row of a selector
abbrev pub row_in : List CallRow → ℕ → Option CallRow
row_in rows number = find (λ row. row.looks.number == number) rows

unfoldable pub row_for : ℕ → Option CallRow
row_for number = row_in call_table number

-- what isn't done: images, sound, hyperlinks, the clock and others; all arguments drop, and the answer is 0
abbrev pub is_dropped : ℕ → Bool
is_dropped number = number == 0x02 || number == 0x49 || is_in_range 0xD4 0xD6 number || is_in_range 0xE0 0x103 number
    || is_in_range 0x123 0x124 number || number == 0x13A || number == 0x151 || is_in_range 0x160 0x16F number

-- a row has at most three references of four words at most
abbrev pub selector_fits : Selector → Bool
selector_fits row = nat_le row.references 3 && nat_le row.words 4
