-- A look at the rows of remainders, by value and by meaning.
use Rattle.std.proofs.Common.{◌≡◌, ℕ, Bool, true, false, cond, ◌&&◌, eqb, ltb, List, [], ◌∷◌, map, length, get_or, Some, None, Option, refl, ap, ◌∙◌}
use Rattle.std.proofs.Math.ListN.{get_or-map, length-map}
use Rattle.std.specs.Option.{option_map}
use Rattle.arithmetic.specs.Residues.{residue}
use Rattle.sheet.specs.declared.branch.Branch.{Branch}
use Rattle.sheet.specs.declared.look.Look.{Look}
use Rattle.sheet.specs.declared.plan.Plan.{Plan}
use Rattle.sheet.specs.declared.row.Row.{Row}
use Rattle.sheet.specs.Looks.{shown, seen}
use Rattle.sheet.specs.Meanings.{meant_row}
use Rattle.sheet.specs.Plans.{branch_at}
use Rattle.printed_key.specs.Blocks.{remainder_line, remainders_line}
use Rattle.printed_key.specs.Text.{Line}

-- the line of what a look shows by value
abbrev pub look_line : ℕ → Option (Look ℕ) → List Line
look_line k None = []
look_line k (Some l) = remainders_line k (residue l.current).0 (residue l.voltage).0 ∷ []

line_looked : (k : ℕ) (b : Bool) (r : Row ℕ) (o : Option Branch) → remainder_line k (cond b (option_map (shown (meant_row residue r)) o) None) ≡ look_line k (cond b (option_map (shown r) o) None)
line_looked k true r None = refl
line_looked k true r (Some b) = refl
line_looked k false r o = refl

abbrev no_row : Row ℕ
no_row = record { value = 0; start = 0; current = 0; voltage = 0 }

pub seen_meant : (p : Plan) (rows : List (Row ℕ)) (k : ℕ) → remainder_line k (seen (residue 0) p (map (meant_row residue) rows) k) ≡ look_line k (seen 0 p rows k)
seen_meant p rows k =
    ap (λ n. remainder_line k (cond (eqb n 32 && ltb k 32) (option_map (shown (get_or (map (meant_row residue) rows) k (meant_row residue no_row))) (branch_at p k)) None)) (length-map rows (meant_row residue))
    ∙ ap (λ r. remainder_line k (cond (eqb (length rows) 32 && ltb k 32) (option_map (shown r) (branch_at p k)) None)) (get_or-map (meant_row residue) rows k no_row)
    ∙ line_looked k (eqb (length rows) 32 && ltb k 32) (get_or rows k no_row) (branch_at p k)
