-- The acts of the rows of a class, by looking at the whole table.
use Rattle.std.proofs.Common.{◌≡◌, ◌<◌, ℕ, Bool, true, refl, subst, arith}
use Rattle.std.specs.List.{list_all}
use Rattle.std.proofs.lemmas.List.Sums.{AllPass-from_list_all}
use Rattle.gx_rows.specs.declared.instructions.Row.{Row}
use Rattle.gx_rows.specs.declared.instructions.Class.{Class}
use Rattle.gx_rows.specs.declared.instructions.Class.TheVariants as class
use Rattle.gx_rows.specs.Table.{table, row_at, row_count}
use Rattle.gx_rows.proofs.Places.{rows_counted}
use Rattle.ops_calc.specs.Acts.{is_calc, is_branch}

-- whether the act of a row is one of its class
act_fits : Class → ℕ → Bool
act_fits class.Calc act = is_calc act
act_fits class.Branch act = is_branch act
act_fits class.Flow act = true
act_fits class.Copy act = true
act_fits class.Memory act = true
act_fits class.Stack act = true
act_fits class.Print act = true
act_fits class.Game act = true
act_fits class.Glk act = true

all_fit : list_all (λ (r : Row). act_fits r.class r.act) table ≡ true
unfolding table act_fits
all_fit = refl

fits : (place : ℕ) → place < row_count → act_fits (row_at place).class (row_at place).act ≡ true
unfolding row_at
fits place within = AllPass-from_list_all (λ (r : Row). act_fits r.class r.act) table all_fit place _
    (omega (arith, rows_counted))

pub calc_act : (place : ℕ) → place < row_count → (row_at place).class ≡ class.Calc → is_calc (row_at place).act ≡ true
unfolding act_fits
calc_act place within is = subst (λ (c : Class). act_fits c (row_at place).act ≡ true) is (fits place within)

pub branch_act : (place : ℕ) → place < row_count → (row_at place).class ≡ class.Branch
    → is_branch (row_at place).act ≡ true
unfolding act_fits
branch_act place within is = subst (λ (c : Class). act_fits c (row_at place).act ≡ true) is (fits place within)

pub ruleset acts = (calc_act, branch_act)
