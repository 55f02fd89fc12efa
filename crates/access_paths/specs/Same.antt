-- Values that `==` calls equal are one.
use Rattle.std.specs.Prelude.{◌≡◌, true, ◌&&◌, nat_eq}
use Rattle.std.specs.Bool.{beq}
use Rattle.std.specs.Cmp.{booleans_Decides, first_so, second_so}
use Rattle.std.specs.Cmp.Lexicographic.{pointwise}
use Rattle.cv_fix.specs.Same.{same_list, same_number}
use Rattle.access_paths.specs.contracts.term.CubePartialEq.TheImpl as cubes
use Rattle.access_paths.specs.contracts.term.FamilyPartialEq.TheImpl as families
use Rattle.access_paths.specs.contracts.term.LiteralPartialEq.TheImpl as literals
use Rattle.access_paths.specs.contracts.term.TermPartialEq.TheImpl as terms
use Rattle.access_paths.specs.declared.term.Cube.{Cube}
use Rattle.access_paths.specs.declared.term.Family.{Family}
use Rattle.access_paths.specs.declared.term.Literal.{Literal}
use Rattle.access_paths.specs.declared.term.Term.{Term}

pub same_term : (t u : Term) → (terms.ghosts).eq t u ≡ true → t ≡ u
same_term t u h =
    let var = same_number t.var.0 u.var.0 (first_so (nat_eq t.var.0 u.var.0) (pointwise nat_eq t.fields u.fields) h) in
    let fields = same_list same_number t.fields u.fields (second_so (nat_eq t.var.0 u.var.0) (pointwise nat_eq t.fields u.fields) h) in
    λ i. record { var = record { 0 = var i }; fields = fields i }

pub same_literal : (l m : Literal) → (literals.ghosts).eq l m ≡ true → l ≡ m
same_literal l m h =
    let rest = second_so (beq l.same m.same) ((terms.ghosts).eq l.less m.less && (terms.ghosts).eq l.more m.more) h in
    let same = (booleans_Decides l.same m.same).0 (first_so (beq l.same m.same) ((terms.ghosts).eq l.less m.less && (terms.ghosts).eq l.more m.more) h) in
    let less = same_term l.less m.less (first_so ((terms.ghosts).eq l.less m.less) ((terms.ghosts).eq l.more m.more) rest) in
    let more = same_term l.more m.more (second_so ((terms.ghosts).eq l.less m.less) ((terms.ghosts).eq l.more m.more) rest) in
    λ i. record { same = same i; less = less i; more = more i }

pub same_cube : (c d : Cube) → (cubes.ghosts).eq c d ≡ true → c ≡ d
same_cube c d h = let same = same_list same_literal c.literals d.literals h in λ i. record { literals = same i }

pub same_family : (f g : Family) → (families.ghosts).eq f g ≡ true → f ≡ g
same_family f g h =
    let classes = same_list same_number f.classes g.classes (first_so (pointwise nat_eq f.classes g.classes) ((cubes.ghosts).eq f.cube g.cube) h) in
    let cube = same_cube f.cube g.cube (second_so (pointwise nat_eq f.classes g.classes) ((cubes.ghosts).eq f.cube g.cube) h) in
    λ i. record { classes = classes i; cube = cube i }
