-- Families that are met one by one.
use Rattle.std.proofs.Common.{◌≡◌, ℕ, zero, suc, ◌+◌, ◌<◌, ◌≤◌, Bool, true, false, ◌&&◌, List, [], ◌∷◌, ◌++◌, Contains, Some, get_or, length, slice_get, take, nat_eq, refl, ap, sym, subst, ◌∙◌, arith, append_assoc, append-nil, length-append, ⊎_elim, inl, inr}
use Rattle.std.specs.Bool.{beq}
use Rattle.std.specs.Cmp.Lexicographic.{pointwise}
use Rattle.std.specs.List.{AllZip}
use Rattle.std.specs.Cmp.{bool_eq_equiv}
use Rattle.std.proofs.lemmas.Cmp.{nat_eq_equiv, nat_list_eq_equiv}
use Rattle.std.proofs.lemmas.List.{take_more}
use Rattle.std.proofs.lemmas.List.Elements.{Contains-append_cases}
use Rattle.std.proofs.lemmas.Option.{slice_get-get_or}
use Rattle.access_paths.specs.contracts.term.FamilyPartialEq.TheImpl as families
use Rattle.access_paths.specs.contracts.term.LiteralPartialEq.TheImpl as literals
use Rattle.access_paths.specs.contracts.term.TermPartialEq.TheImpl as terms
use Rattle.access_paths.specs.declared.term.Family.{Family}
use Rattle.access_paths.specs.declared.term.Instance.{Instance}
use Rattle.access_paths.specs.declared.term.Literal.{Literal}
use Rattle.access_paths.specs.declared.term.Term.{Term}
use Rattle.access_paths.specs.{same_family}
use Rattle.access_paths.proofs.Members.{no_member, which_member}
use Rattle.method_abstraction.specs.declared.entry.Disjunct.{Disjunct}
use Rattle.method_abstraction.specs.declared.entry.Disjunct.TheVariants as disjunct
use Rattle.derivation.specs.Closing.{AreTooMany, Meets}
use Rattle.derivation.specs.Laws.{IsNumbered}
use Rattle.derivation.specs.Meeting.{IsFull}
use Rattle.derivation.specs.declared.meet.MeetFault.{MeetFault}
use Rattle.derivation.specs.declared.meet.MeetFault.TheVariants.{Full, Memory}
use Rattle.derivation.specs.declared.reply.Predicate.{Predicate}
use Rattle.derivation.specs.declared.reply.Predicate.TheVariants.{Always, Of}

and_true : (a b : Bool) → a ≡ true → b ≡ true → (a && b) ≡ true
and_true true b p q = q
and_true false b p q = absurd (cc)

list_itself : {A : Type 0} (e : A → A → Bool) → ((x : A) → e x x ≡ true) → (xs : List A) → pointwise e xs xs ≡ true
list_itself e same [] = refl
list_itself e same (x ∷ xs) = and_true (e x x) (pointwise e xs xs) (same x) (list_itself e same xs)

term_itself : (t : Term) → (terms.ghosts).eq t t ≡ true
term_itself t = and_true (nat_eq t.var.0 t.var.0) (pointwise nat_eq t.fields t.fields) (nat_eq_equiv.refl t.var.0) (nat_list_eq_equiv.refl t.fields)

literal_itself : (l : Literal) → (literals.ghosts).eq l l ≡ true
literal_itself l =
    and_true (beq l.same l.same) ((terms.ghosts).eq l.less l.less && (terms.ghosts).eq l.more l.more) (bool_eq_equiv.refl l.same)
    (and_true ((terms.ghosts).eq l.less l.less) ((terms.ghosts).eq l.more l.more) (term_itself l.less) (term_itself l.more))

-- a family is equal to itself
family_itself : (f : Family) → (families.ghosts).eq f f ≡ true
family_itself f =
    and_true (pointwise nat_eq f.classes f.classes) (pointwise (literals.ghosts).eq f.cube.literals f.cube.literals) (nat_list_eq_equiv.refl f.classes)
    (list_itself (literals.ghosts).eq literal_itself f.cube.literals)

-- the family that was looked for stands here
pub found_here : (known : List Family) (n : ℕ) (other family : Family) → n < length known → other ≡ get_or known n other
    → (families.ghosts).eq other family ≡ true → slice_get known n ≡ Some family
found_here known n other family within at same = slice_get-get_or known n other within ∙ ap Some (sym at ∙ same_family other family same)

-- or it does not, and stands at no place before either
pub not_here : (known : List Family) (n : ℕ) (other family : Family) → n < length known → other ≡ get_or known n other
    → (families.ghosts).eq other family ≡ false → ¬ Contains (take n known) family → ¬ Contains (take (n + 1) known) family
not_here known n other family within at differs before has =
    ⊎_elim before
    (λ (here : Contains (other ∷ []) family). ⊎_elim
    (λ (e : other ≡ family). let same : (families.ghosts).eq other family ≡ true = ap ((families.ghosts).eq other) (sym e) ∙ family_itself other in absurd (cc))
    (no_member family) (which_member other [] family here))
    (Contains-append_cases (take n known) (other ∷ []) family
    (subst (λ l. Contains l family) (take_more known n other within ∙ ap (λ x. take n known ++ x ∷ []) (sym at)) has))

-- a family more than there may be
pub too_many : (known : List Family) (i : Instance) → ¬ Contains known i.family → length known ≡ 64 → AreTooMany known (Of i ∷ [])
too_many known i new full = record {
  some = Of i ∷ [];
  rest = [];
  in_order = refl;
  after = known ++ i.family ∷ [];
  meets = inr (new, refl);
  many = omega (arith, full, length-append known (i.family ∷ []));
}

-- those of some predicates, and then of more
pub meets_more : (known : List Family) (ps qs : List Predicate) (between after : List Family) → Meets known ps between → Meets between qs after
    → Meets known (ps ++ qs) after
meets_more known [] qs between after first second = subst (λ l. Meets l qs after) first second
meets_more known (Always ∷ ps) qs between after first second = meets_more known ps qs between after first second
meets_more known (Of i ∷ ps) qs between after first second =
    ⊎_elim (λ h. inl (h.0, meets_more known ps qs between after h.1 second))
    (λ h. inr (h.0, meets_more (known ++ i.family ∷ []) ps qs between after h.1 second)) first

-- the known ones stay in front
pub meets_front : (known : List Family) (ps : List Predicate) (after : List Family) → Meets known ps after → (more : List Family) × (after ≡ known ++ more)
meets_front known [] after meets = ([], meets ∙ sym (append-nil known))
meets_front known (Always ∷ ps) after meets = meets_front known ps after meets
meets_front known (Of i ∷ ps) after meets =
    ⊎_elim (λ h. meets_front known ps after h.1)
    (λ h. let rest = meets_front (known ++ i.family ∷ []) ps after h.1 in
    (i.family ∷ rest.0, rest.1 ∙ append_assoc known (i.family ∷ []) rest.0)) meets

-- what stands in front keeps its number
pub front_get : {X : Type 0} (xs more : List X) (n : ℕ) (x : X) → slice_get xs n ≡ Some x → slice_get (xs ++ more) n ≡ Some x
front_get [] more n x at = absurd (cc)
front_get (y ∷ xs) more zero x at = at
front_get (y ∷ xs) more (suc n) x at = front_get xs more n x at

numbered_front : (known more : List Family) (p : Predicate) (d : Disjunct) → IsNumbered known p d → IsNumbered (known ++ more) p d
numbered_front known more Always disjunct.Always is = tt
numbered_front known more Always (disjunct.Of n vars) is = absurd is
numbered_front known more (Of i) disjunct.Always is = absurd is
numbered_front known more (Of i) (disjunct.Of n vars) is = (front_get known more n i.family is.0, is.1)

pub all_numbered_front : (known more : List Family) (ps : List Predicate) (ds : List Disjunct) → AllZip (IsNumbered known) ps ds
    → AllZip (IsNumbered (known ++ more)) ps ds
all_numbered_front known more [] [] all = tt
all_numbered_front known more [] (d ∷ ds) all = absurd all
all_numbered_front known more (p ∷ ps) [] all = absurd all
all_numbered_front known more (p ∷ ps) (d ∷ ds) all = (numbered_front known more p d all.0, all_numbered_front known more ps ds all.1)

-- what a fault tells
pub full_so : (P Q : Type 0) (fault : MeetFault) → (P → Q) → IsFull P fault → IsFull Q fault
full_so P Q Full so is = so is
full_so P Q Memory so is = tt

pub zip_one_more : {X Y : Type 0} (R : X → Y → Type 0) (xs : List X) (ys : List Y) (x : X) (y : Y) → AllZip R xs ys → R x y
    → AllZip R (xs ++ x ∷ []) (ys ++ y ∷ [])
zip_one_more R [] [] x y all is = (is, tt)
zip_one_more R [] (w ∷ ys) x y all is = absurd all
zip_one_more R (z ∷ xs) [] x y all is = absurd all
zip_one_more R (z ∷ xs) (w ∷ ys) x y all is = (all.0, zip_one_more R xs ys x y all.1 is)

-- These predicates are numbered so far, and these are left.
pub record AreNumbered (known : List Family) (all rest : List Predicate) (families : List Family) (made : List Disjunct) : Type 0 where
  pub done : List Predicate
  pub parts : all ≡ done ++ rest
  pub meets : Meets known done families
  pub few : length families ≤ 64
  pub numbered : AllZip (IsNumbered families) done made

module _ (known : List Family) (all rest left : List Predicate) (families : List Family) (made : List Disjunct)
    (so_far : AreNumbered known all rest families made) (p : Predicate) (is : rest ≡ p ∷ left) where
  parts : all ≡ (so_far.done ++ p ∷ []) ++ left
  parts = so_far.parts ∙ ap (λ l. so_far.done ++ l) is ∙ sym (append_assoc so_far.done (p ∷ []) left)

  -- one predicate more
  pub one_more_numbered : (after : List Family) (d : Disjunct) (next : List Disjunct) → Meets families (p ∷ []) after → length after ≤ 64
      → IsNumbered after p d → next ≡ made ++ d ∷ [] → AreNumbered known all left after next
  one_more_numbered after d next more few numbered ends =
      let front = meets_front families (p ∷ []) after more in
      record {
        done = so_far.done ++ p ∷ [];
        parts = parts;
        meets = meets_more known so_far.done (p ∷ []) families after so_far.meets more;
        few = few;
        numbered = subst (AllZip (IsNumbered after) (so_far.done ++ p ∷ [])) (sym ends)
            (zip_one_more (IsNumbered after) so_far.done made p d
            (subst (λ l. AllZip (IsNumbered l) so_far.done made) (sym front.1)
            (all_numbered_front families front.0 so_far.done made so_far.numbered)) numbered);
      }

  pub one_too_many : AreTooMany families (p ∷ []) → AreTooMany known all
  one_too_many many = record {
    some = so_far.done ++ many.some;
    rest = many.rest ++ left;
    in_order = parts ∙ ap (λ l. (so_far.done ++ l) ++ left) many.in_order ∙ ap (λ l. l ++ left) (sym (append_assoc so_far.done many.some many.rest))
        ∙ append_assoc (so_far.done ++ many.some) many.rest left;
    after = many.after;
    meets = meets_more known so_far.done many.some families many.after so_far.meets many.meets;
    many = many.many;
  }
