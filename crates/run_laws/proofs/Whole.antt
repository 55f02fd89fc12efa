-- A run fails at a clause exactly where a path breaks it.
use Rattle.std.proofs.Common.{◌≡◌, ℕ, suc, ◌+◌, Bool, List, [], ◌∷◌, ◌++◌, length, refl, sym, ap, subst, arith, length-append}
use Rattle.client_facts.specs.Setting.{Setting}
use Rattle.client_run.proofs.ByTrees.{points_are_trees}
use Rattle.client_run.specs.Graph.{AreAgreed}
use Rattle.client_run.specs.Places.{beginning}
use Rattle.client_steps.specs.Runs.{Fails, IsRun}
use Rattle.run_laws.proofs.Back.{Found, at_start, found}
use Rattle.run_laws.proofs.Forth.{breaks_come}
use Rattle.run_laws.specs.Breaks.{Breaks, RunsAreBreaks}

same_head : (x y : Bool) (xs ys : List Bool) → x ∷ xs ≡ y ∷ ys → x ≡ y
same_head x y xs ys is = cc

same_tail : (x y : Bool) (xs ys : List Bool) → x ∷ xs ≡ y ∷ ys → xs ≡ ys
same_tail x y xs ys is = cc

-- the first of two lists is one where the second are as long
front_once : (xs ys zs ws : List Bool) → xs ++ ys ≡ zs ++ ws → length ys ≡ length ws → xs ≡ zs
front_once [] ys [] ws is same = refl
front_once [] ys (z ∷ zs) ws is same =
    let lengths : length ys ≡ length ((z ∷ zs) ++ ws) = ap length is in
    let more : length ((z ∷ zs) ++ ws) ≡ length (z ∷ zs) + length ws = length-append (z ∷ zs) ws in
    let one : length (z ∷ zs) ≡ suc (length zs) = refl in
    absurd (omega arith)
front_once (x ∷ xs) ys [] ws is same =
    let lengths : length ((x ∷ xs) ++ ys) ≡ length ws = ap length is in
    let more : length ((x ∷ xs) ++ ys) ≡ length (x ∷ xs) + length ys = length-append (x ∷ xs) ys in
    let one : length (x ∷ xs) ≡ suc (length xs) = refl in
    absurd (omega arith)
front_once (x ∷ xs) ys (z ∷ zs) ws is same =
    let heads : x ≡ z = same_head x z (xs ++ ys) (zs ++ ws) is in
    let tails : xs ++ ys ≡ zs ++ ws = same_tail x z (xs ++ ys) (zs ++ ws) is in
    λ i. heads i ∷ front_once xs ys zs ws tails same i

module _ (g : Setting) (agreed : AreAgreed g.client) where
  break_run : (call clause : ℕ) (choices rest : List Bool) → Breaks g call clause choices →
      (budget : ℕ) × IsRun g.form g.client (choices ++ rest) budget (Fails call clause (length rest))
  break_run call clause choices rest b =
      let comes = breaks_come g agreed call clause choices rest b in
      (comes.0, (points_are_trees g.form g.client (choices ++ rest) comes.0 (Fails call clause (length rest)) agreed).trees comes.1)

  run_break : (call clause : ℕ) (choices rest : List Bool) (budget : ℕ) →
      IsRun g.form g.client (choices ++ rest) budget (Fails call clause (length rest)) → Breaks g call clause choices
  run_break call clause choices rest budget run =
      let f : Found g call clause (length rest) (choices ++ rest) =
      found g agreed (beginning g.client (choices ++ rest) budget) (Fails call clause (length rest))
      ((points_are_trees g.form g.client (choices ++ rest) budget (Fails call clause (length rest)) agreed).points run) call clause (length rest) refl
      (choices ++ rest) (at_start g (choices ++ rest) budget)
      in
      subst (Breaks g call clause) (sym (front_once choices rest f.taken f.rest f.whole f.unused_is)) f.breaks

pub runs_are_breaks : RunsAreBreaks
runs_are_breaks g agreed call clause choices rest =
    (break_run g agreed call clause choices rest, λ run. run_break g agreed call clause choices rest run.0 run.1)
