-- The constants of the code are the definitions' numbers.
use Rattle.std.proofs.Common.{◌≡◌, refl}
use Rattle.glk_windows.specs.declared.grid.TheConstants as grid
use Rattle.glk_windows.specs.declared.methods.TheConstants as window
use Rattle.glk_windows.specs.Constants.{pair_window, blank_window, text_buffer, text_grid, left, right, above, below}
use Rattle.glk_windows.specs.Constants.{fixed, proportional, most_windows, blank_cell}

pub PAIR_is : window.PAIR ≡ pair_window
PAIR_is = refl

pub BLANK_WINDOW_is : window.BLANK_WINDOW ≡ blank_window
BLANK_WINDOW_is = refl

pub TEXT_BUFFER_is : window.TEXT_BUFFER ≡ text_buffer
TEXT_BUFFER_is = refl

pub TEXT_GRID_is : window.TEXT_GRID ≡ text_grid
TEXT_GRID_is = refl

pub LEFT_is : window.LEFT ≡ left
LEFT_is = refl

pub RIGHT_is : window.RIGHT ≡ right
RIGHT_is = refl

pub ABOVE_is : window.ABOVE ≡ above
ABOVE_is = refl

pub BELOW_is : window.BELOW ≡ below
BELOW_is = refl

pub FIXED_is : window.FIXED ≡ fixed
FIXED_is = refl

pub PROPORTIONAL_is : window.PROPORTIONAL ≡ proportional
PROPORTIONAL_is = refl

pub MOST_WINDOWS_is : window.MOST_WINDOWS ≡ most_windows
MOST_WINDOWS_is = refl

pub BLANK_is : grid.BLANK ≡ blank_cell
BLANK_is = refl
