-- The cube that is read after the body is true where it is in the heap that the body leaves.
use Rattle.std.proofs.Common.{◌≡◌, ℕ, ◌==◌, ◌&&◌, Bool, true, false, not, if◌then◌else◌, List, [], ◌∷◌, fold, Option, slice_index, slice_index_or, ap, ap₂, sym, ◌∙◌}
use Rattle.easl_model.specs.Form.{Form}
use Rattle.easl_heap.specs.{Object, get}
use Rattle.access_paths.specs.{by_objects, cube_holds, literal_holds, object_of}
use Rattle.access_paths.specs.declared.term.Literal.{Literal}
use Rattle.access_paths.specs.declared.term.Term.{Term}
use Rattle.question_model.specs.{Done, are_same, cube_after, literal_after, term_after, ◌>>=◌}
use Rattle.question_model.proofs.Asking.{Agree, bound}
use Rattle.question_model.proofs.Meaning.{IsGood, Matches, Start, denote}
use Rattle.question_model.proofs.Reading.{are_same_so, led_so}
use Rattle.question_model.specs.declared.answer.Answer.{Answer}
use Rattle.question_model.specs.declared.value.Value.TheVariants.{Nothing}
use Rattle.question_model.specs.declared.value.Value.{Value}
use Rattle.question_model.specs.declared.value.Write.{Write}

module _ (form : Form) (variables : List (Option ℕ)) (before : List Object) (objects : List ℕ) (start : Start form variables before objects)
    (most : Option ℕ) (answers : List Answer) (agree : Agree before objects answers) (writes : List Write) (count : ℕ) (now : List Object)
    (matches : Matches form variables before objects writes count now) (values : List Value) (left : List ℕ) where
  -- the value of the variable stands for its object
  pub record IsKnown (n : ℕ) : Type 0 where
    pub good : IsGood form variables before objects now (slice_index_or values n Nothing)
    pub is : denote before objects (slice_index_or values n Nothing) ≡ slice_index left n

  pub record BothKnown (l : Literal) : Type 0 where
    pub less : IsKnown l.less.var.0
    pub more : IsKnown l.more.var.0

  abbrev pub AllKnown : List Literal → Type 0
  AllKnown [] = Unit {0}
  AllKnown (l ∷ ls) = BothKnown l × AllKnown ls

  term_so : (t : Term) → IsKnown t.var.0 → (x : Value) → term_after form most answers writes values t ≡ Done x
      → IsGood form variables before objects now x × (denote before objects x ≡ object_of now left t)
  term_so t known x done =
      let l = led_so form variables before objects start most answers agree writes count now matches t.fields
      (slice_index_or values t.var.0 Nothing) x known.good done in
      (l.0, l.1 ∙ ap (λ n. fold (get now) n t.fields) known.is)

  told : (same one : Bool) (b : Bool) → Done (if same then one else not one) ≡ Done b → (other : Bool) → one ≡ other → b ≡ (if same then other else not other)
  told same one b e other is = let so : (if same then one else not one) ≡ b = cc in sym so ∙ ap (λ s. if same then s else not s) is

  literal_so : (l : Literal) → BothKnown l → (b : Bool) → literal_after form most answers writes values l ≡ Done b → b ≡ literal_holds (by_objects now left) l
  literal_so l known b done =
      let first = bound (term_after form most answers writes values l.less)
      (λ v. term_after form most answers writes values l.more
      >>= (λ w. are_same answers v w >>= (λ same. Done (if l.same then same else not same)))) b done in
      let second = bound (term_after form most answers writes values l.more)
      (λ w. are_same answers first.0 w >>= (λ same. Done (if l.same then same else not same))) b first.2 in
      let third = bound (are_same answers first.0 second.0) (λ same. Done (if l.same then same else not same)) b second.2 in
      let v = term_so l.less known.less first.0 first.1 in
      let w = term_so l.more known.more second.0 second.1 in
      told l.same third.0 b third.2 (by_objects now left l.less l.more)
      (are_same_so form variables before objects start most answers agree now first.0 second.0 third.0 v.0 w.0 third.1 ∙ ap₂ (λ m n. m == n) v.1 w.1)

  further : (ls : List Literal) (s b one : Bool) → s ≡ one
      → (cube_after form most answers writes values ls ≡ Done b → b ≡ cube_holds (by_objects now left) ls)
      → (if s then cube_after form most answers writes values ls else Done false) ≡ Done b → b ≡ (one && cube_holds (by_objects now left) ls)
  further ls true b one so rest done = rest done ∙ ap (λ a. a && cube_holds (by_objects now left) ls) so
  further ls false b one so rest done = let no : false ≡ b = cc in sym no ∙ ap (λ a. a && cube_holds (by_objects now left) ls) so

  pub cube_so : (ls : List Literal) → AllKnown ls → (b : Bool) → cube_after form most answers writes values ls ≡ Done b
      → b ≡ cube_holds (by_objects now left) ls
  cube_so [] known b done = let yes : true ≡ b = cc in sym yes
  cube_so (l ∷ ls) known b done =
      let two = bound (literal_after form most answers writes values l) (λ s. if s then cube_after form most answers writes values ls else Done false) b done in
      further ls two.0 b (literal_holds (by_objects now left) l) (literal_so l known.0 two.0 two.1) (cube_so ls known.1 b) two.2
