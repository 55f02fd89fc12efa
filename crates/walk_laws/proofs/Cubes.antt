-- The cube of a family speaks of the family's variables alone.
use Rattle.std.proofs.Common.{◌≡◌, ℕ, suc, zero, ◌<◌, ◌==◌, ◌&&◌, not, All, List, [], ◌∷◌, ap, arith, length, map, refl, subst}
use Rattle.std.specs.Prelude.{Some, if◌then◌else◌, slice_index}
use Rattle.std.specs.List.{fold}
use Rattle.std.proofs.lemmas.List.{length-map}
use Rattle.access_paths.specs.{IsLiteralOf, IsTermOf, by_objects, cube_holds, object_of}
use Rattle.access_paths.specs.declared.term.Literal.{Literal}
use Rattle.access_paths.specs.declared.term.Term.{Term}
use Rattle.easl_heap.specs.{Object, get}
use Rattle.easl_model.specs.Form.{Form}
use Rattle.walk_laws.proofs.Questions.{place_there}

module _ (form : Form) (heap : List Object) (xs ys classes : List ℕ) (same : (v : ℕ) → v < length classes → slice_index xs v ≡ slice_index ys v) where
  term_same : (t : Term) (class : ℕ) → IsTermOf form (map (λ c. Some c) classes) t class → object_of heap xs t ≡ object_of heap ys t
  term_same t class of =
      let there : t.var.0 < length (map (λ c. Some c) classes) = place_there (map (λ c. Some c) classes) t.var.0 (Some of.start) of.variable in
      let less : t.var.0 < length classes = subst (λ n. t.var.0 < n) (length-map classes (λ c. Some c)) there in
      ap (λ o. fold (get heap) o t.fields) (same t.var.0 less)

  pub cube_same : (ls : List Literal) → All (IsLiteralOf form (map (λ c. Some c) classes)) ls →
      cube_holds (by_objects heap xs) ls ≡ cube_holds (by_objects heap ys) ls
  cube_same [] of = refl
  cube_same (l ∷ ls) of =
      let here : IsLiteralOf form (map (λ c. Some c) classes) l = of zero l (omega arith) in
      let less = term_same l.less here.class here.less in
      let more = term_same l.more here.class here.more in
      let rest = cube_same ls (λ n d lt. of (suc n) d (omega (arith, lt))) in
      λ i. (if l.same then (less i == more i) else not (less i == more i)) && rest i
