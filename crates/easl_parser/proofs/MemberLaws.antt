-- The readers of clauses, returns, members, classes and specifications read their grammar.
use Rattle.std.proofs.Common.{◌≡◌, ℕ, suc, Bool, Option, Some, None, List, [], ◌∷◌, ◌++◌, refl, sym, ◌∙◌, ap, subst, inl, inr}
use Rattle.easl_model.specs.{IsAny, IsClass, IsClause, IsMember, IsName, IsParams, IsResult, IsReturn, IsSpec, IsSteps, IsType, IsValue, class, class_type}
use Rattle.easl_model.specs.{clause, constructor, field, method, no_result, opaque_type, some_result, spec, with_return, word_of}
use Rattle.easl_model.specs.Grammar.{no_return}
use Rattle.easl_model.specs.declared.place.Place.{Place}
use Rattle.easl_model.specs.declared.token.Key.TheVariants as key
use Rattle.easl_model.specs.declared.token.Kind.{Kind}
use Rattle.easl_model.specs.declared.token.Kind.TheVariants as kind
use Rattle.easl_model.specs.declared.token.Mark.TheVariants as mark
use Rattle.easl_model.specs.declared.token.Token.{Token}
use Rattle.easl_model.specs.declared.tree.Class.{Class}
use Rattle.easl_model.specs.declared.tree.Member.{Member}
use Rattle.easl_model.specs.declared.tree.Member.TheVariants as member
use Rattle.easl_model.specs.declared.tree.Param.{Param}
use Rattle.easl_model.specs.declared.tree.Requires.{Requires}
use Rattle.easl_model.specs.declared.tree.Return.{Return}
use Rattle.easl_model.specs.declared.tree.Sort.{Sort}
use Rattle.easl_model.specs.declared.tree.Sort.TheVariants as sort
use Rattle.easl_model.specs.declared.tree.Spec.{Spec}
use Rattle.easl_model.specs.declared.tree.Step.{Step}
use Rattle.easl_model.specs.declared.tree.Word.{Word}
use Rattle.cv_read.specs.{Got, is_key, is_mark, is_name, is_opaque, mark_place_at, nothing_of, opaque_of, place_of, placed_opaque, type_starts, ◌>>=◌}
use Rattle.cv_read.proofs.Laws.{Lang, Is, none, either, Front, Apart, Then, Mapped, One, Or, End, no_none, avoids_none, front_avoids, front_less, then_starts}
use Rattle.cv_read.proofs.Levels.{mark_flat, key_flat, name_flat, begin_opens, end_closes}
use Rattle.cv_read.proofs.Repeats.{Star, many_to, many_from, or_left, or_right}
use Rattle.cv_read.proofs.Tested.{mark_to, mark_from, key_to, key_from, name_to, name_from}
use Rattle.cv_read.proofs.TypeLaws.{opaque_flat, opaque_to, opaque_from, opaque_same, params_within, params_begins}
use Rattle.cv_read.proofs.Within.{ReadsWithin, ClosesWithin, got_within, mapped_within, respell_within, both_within, closed_within, led_within, opened_within, two_ways_within, or_nothing_within, repeated_within, take_closes, mapped_closes, both_closes}
use Rattle.cv_read.proofs.Words.{Led, Closed, led_starts}
use Rattle.easl_parser.specs.Reading.{clause_at, clauses_at, return_at, constructor_at, method_at, behind_result, behind_two, behind_one, member_at, member_starts, members_at, class_at, spec_at, step_starts}
use Rattle.easl_parser.proofs.CondLaws.{conditions_within}
use Rattle.easl_parser.proofs.StepLaws.{StepsGo, steps_within, steps_start}
use Rattle.easl_parser.proofs.ValueLaws.{value_within}

opaque_no_void : Apart is_opaque (is_key key.Void)
opaque_no_void (kind.Key key.Void) f g = f
opaque_no_void k f g = g

open_no_semicolon : Apart (is_mark mark.Open) (is_mark mark.Semicolon)
open_no_semicolon (kind.Mark mark.Open) f g = g
open_no_semicolon k f g = f

name_no_open : Apart is_name (is_mark mark.Open)
name_no_open kind.Name f g = g
name_no_open k f g = f

abbrev PlainStarts : Kind → Bool
PlainStarts = either (is_key key.Void) is_opaque

plain_no_name : Apart PlainStarts is_name
plain_no_name kind.Name f g = f
plain_no_name k f g = g

end_no_return : Apart (is_mark mark.End) (is_key key.Return)
end_no_return (kind.Mark mark.End) f g = g
end_no_return k f g = f

-- what stands behind the steps, and behind the clauses
abbrev BodyEnds : Kind → Bool
BodyEnds = either (is_key key.Return) (is_mark mark.End)

end_no_step : Apart BodyEnds StepsGo
end_no_step kind.Name f g = f
end_no_step (kind.Key key.This) f g = f
end_no_step (kind.Key key.If) f g = f
end_no_step (kind.Key key.Else) f g = f
end_no_step k f g = g

brace_no_step : Apart (is_mark mark.End) StepsGo
brace_no_step (kind.Mark mark.End) f g = g
brace_no_step k f g = f

abbrev StepsEnd : Kind → Bool
StepsEnd = either step_starts BodyEnds

abbrev ClausesGo : Kind → Bool
ClausesGo = either none (is_key key.Requires)

step_no_clause : Apart StepsEnd ClausesGo
step_no_clause (kind.Key key.Requires) f g = f
step_no_clause k f g = g

abbrev MembersGo : Kind → Bool
MembersGo = either none member_starts

brace_no_member : Apart (is_mark mark.End) MembersGo
brace_no_member (kind.Mark mark.End) f g = g
brace_no_member k f g = f

abbrev pub SpecGoes : Kind → Bool
SpecGoes = either none (is_key key.Class)

-- the members with code
abbrev constructor_of : Word → List Param → List Step → Place → Member
constructor_of n ps xs e = member.Constructor (record { place = n.place; result = sort.Void; name = n; params = ps; clauses = []; body = xs; value = None; end = e })

abbrev method_of : Place → Sort → Word → List Param → List Requires → List Step → Option Return → Place → Member
method_of at r n ps cs xs x e = member.Method (record { place = at; result = r; name = n; params = ps; clauses = cs; body = xs; value = x; end = e })

-- a closing brace with its place
abbrev Brace : Lang Place
Brace = One (is_mark mark.End) place_of

brace_closes : {B : Type 0} (g : Place → B) (d : ℕ) → ClosesWithin (λ ts. mark_place_at mark.End ts >>= λ e zs. Got (g e) zs) (Mapped Brace g) none d
brace_closes g d = mapped_closes g (take_closes (is_mark mark.End) place_of none d (kind.Mark mark.End) tt end_closes)

brace_begins : {B : Type 0} (g : Place → B) (w : List Token) (z : B) → Mapped Brace g w z → Front (is_mark mark.End) w
brace_begins g w z h = subst (Front (is_mark mark.End)) (sym h.1.1) h.1.2

module _ (text : List ℕ) where
  -- clauses
  abbrev ClauseLang : Lang Requires
  ClauseLang = Led (is_key key.Requires) place_of (λ at. Mapped (Closed mark.Semicolon (IsAny text)) (λ x. record { place = at; condition = x }))

  clause_to : (w : List Token) (x : Requires) → ClauseLang w x → IsClause text w x
  clause_to w x h =
      let c = h.3.1 in
      subst (IsClause text w) (sym h.3.2) (subst (λ m. IsClause text m (record { place = h.0.place; condition = h.3.0 })) (sym (h.4 ∙ ap (λ u. h.0 ∷ u) c.4))
      (clause (key_to key.Requires h.0 h.2) c.2 (mark_to mark.Semicolon c.1 c.3)))

  clause_from : (w : List Token) (x : Requires) → IsClause text w x → ClauseLang w x
  clause_from w x (clause {requires = r} {semicolon = k} {ts = ts} {x = y} i h j) = (r, ts ++ k ∷ [], key_from key.Requires r i, (y, (ts, k, h, mark_from mark.Semicolon k j, refl), refl), refl)

  clause_within : (d : ℕ) → ReadsWithin (clause_at text d) (IsClause text) none d
  unfolding clause_at
  clause_within d = respell_within clause_to clause_from
      (led_within (is_key key.Requires) place_of (kind.Key key.Requires) tt (key_flat key.Requires)
      (λ at. mapped_within (λ x. record { place = at; condition = x }) (closed_within mark.Semicolon none (mark_flat mark.Semicolon (λ b. refl)) (λ g. g) (conditions_within text d))))

  clause_begins : (w : List Token) (x : Requires) → IsClause text w x → Front (is_key key.Requires) w
  clause_begins w x (clause {requires = r} i h j) = key_from key.Requires r i

  clauses_within : (d : ℕ) → ReadsWithin (clauses_at text d) (Star (IsClause text)) ClausesGo d
  clauses_within d = repeated_within (is_key key.Requires) clause_begins (no_none (is_key key.Requires)) (clause_within d)

  -- the return
  abbrev Returned : Lang (Option Return)
  Returned = Led (is_key key.Return) place_of (λ at. Mapped (Closed mark.Semicolon (IsValue text)) (λ x. Some (record { place = at; value = x })))

  return_to : (w : List Token) (x : Option Return) → Or Returned (End None) w x → IsReturn text w x
  return_to w x (inl h) =
      let c = h.3.1 in
      subst (IsReturn text w) (sym h.3.2) (subst (λ m. IsReturn text m (Some (record { place = h.0.place; value = h.3.0 }))) (sym (h.4 ∙ ap (λ u. h.0 ∷ u) c.4))
      (with_return (key_to key.Return h.0 h.2) c.2 (mark_to mark.Semicolon c.1 c.3)))
  return_to w x (inr h) = subst (IsReturn text w) (sym h.1) (subst (λ m. IsReturn text m None) (sym h.0) no_return)

  return_from : (w : List Token) (x : Option Return) → IsReturn text w x → Or Returned (End None) w x
  return_from w x no_return = inr (refl, refl)
  return_from w x (with_return {return = r} {semicolon = k} {ts = ts} {x = y} i h j) = inl (r, ts ++ k ∷ [], key_from key.Return r i, (y, (ts, k, h, mark_from mark.Semicolon k j, refl), refl), refl)

  return_within : (d : ℕ) → ReadsWithin (return_at text) (IsReturn text) (is_key key.Return) d
  unfolding return_at
  return_within d = respell_within return_to return_from
      (or_nothing_within (is_key key.Return) None (led_starts (is_key key.Return) place_of (λ at. Mapped (Closed mark.Semicolon (IsValue text)) (λ x. Some (record { place = at; value = x })))) (λ k h. h)
      (led_within (is_key key.Return) place_of (kind.Key key.Return) tt (key_flat key.Return)
      (λ at. mapped_within (λ x. Some (record { place = at; value = x })) (closed_within mark.Semicolon (is_key key.Return) (mark_flat mark.Semicolon (λ b. refl)) (λ g. g) (value_within text d)))))

  -- what stands in braces, over what is made of it
  abbrev ReturnTail : {B : Type 0} → (Option Return → Place → B) → Lang B
  ReturnTail g = Then (IsReturn text) (λ x. Mapped Brace (g x))

  abbrev StepsTail : {B : Type 0} → (List Step → Option Return → Place → B) → Lang B
  StepsTail g = Then (IsSteps text) (λ xs. ReturnTail (g xs))

  abbrev ClausesTail : {B : Type 0} → (List Requires → List Step → Option Return → Place → B) → Lang B
  ClausesTail g = Then (Star (IsClause text)) (λ cs. StepsTail (g cs))

  abbrev StepsClose : {B : Type 0} → (List Step → Place → B) → Lang B
  StepsClose g = Then (IsSteps text) (λ xs. Mapped Brace (g xs))

  return_tail_begins : {B : Type 0} (g : Option Return → Place → B) (w : List Token) (z : B) → ReturnTail g w z → Front BodyEnds w
  return_tail_begins {B} g w z h = subst (Front BodyEnds) (sym h.5) (by h.1 h.0 h.3)
    where
      by : (u : List Token) (x : Option Return) → IsReturn text u x → Front BodyEnds (u ++ h.2)
      by u x no_return = front_less (is_mark mark.End) BodyEnds (λ k f. or_right (is_key key.Return k) (is_mark mark.End k) f) h.2 (brace_begins (g h.0) h.2 z h.4)
      by u x (with_return {return = r} i j l) = or_left (is_key key.Return r.kind) (is_mark mark.End r.kind) (key_from key.Return r i)

  steps_tail_begins : {B : Type 0} (g : List Step → Option Return → Place → B) (w : List Token) (z : B) → StepsTail g w z → Front StepsEnd w
  steps_tail_begins g w z h = subst (Front StepsEnd) (sym h.5) (steps_start text h.0 h.1 h.2 BodyEnds h.3 (return_tail_begins (g h.0) h.2 z h.4))

  -- members
  abbrev InBraces : {B : Type 0} → Lang B → Lang B
  InBraces S = Led (is_mark mark.Begin) nothing_of (λ _. S)

  abbrev ConstructorLang : Word → Lang Member
  ConstructorLang n = Then (IsParams text) (λ ps. InBraces (StepsClose (constructor_of n ps)))

  abbrev MethodLang : Place → Sort → Word → Lang Member
  MethodLang at r n = Then (IsParams text) (λ ps. InBraces (ClausesTail (method_of at r n ps)))

  constructor_within : (d : ℕ) (n : Word) → ReadsWithin (constructor_at text d n) (ConstructorLang n) none (suc d)
  unfolding constructor_at
  constructor_within d n = both_within (params_within text none d)
      (λ ps. opened_within (is_mark mark.Begin) nothing_of (kind.Mark mark.Begin) tt begin_opens
      (λ _. both_closes (steps_within text d)
      (λ xs. brace_closes (constructor_of n ps xs) d)
      (λ xs w k z h a. front_avoids (is_mark mark.End) StepsGo brace_no_step w k (brace_begins (constructor_of n ps xs) w z h))))
      (λ ps w k z h a. avoids_none (w ++ k))

  method_within : (d : ℕ) (at : Place) (r : Sort) (n : Word) → ReadsWithin (method_at text d at r n) (MethodLang at r n) none (suc d)
  unfolding method_at
  method_within d at r n = both_within (params_within text none d)
      (λ ps. opened_within (is_mark mark.Begin) nothing_of (kind.Mark mark.Begin) tt begin_opens
      (λ _. both_closes (clauses_within d)
      (λ cs. both_closes (steps_within text d)
      (λ xs. both_closes (return_within d)
      (λ x. brace_closes (method_of at r n ps cs xs x) d)
      (λ x w k z h a. front_avoids (is_mark mark.End) (is_key key.Return) end_no_return w k (brace_begins (method_of at r n ps cs xs x) w z h)))
      (λ xs w k z h a. front_avoids BodyEnds StepsGo end_no_step w k (return_tail_begins (method_of at r n ps cs xs) w z h)))
      (λ cs w k z h a. front_avoids StepsEnd ClausesGo step_no_clause w k (steps_tail_begins (method_of at r n ps cs) w z h))))
      (λ ps w k z h a. avoids_none (w ++ k))

  code_begins : {B : Type 0} (T : List Param → Lang B) (w : List Token) (x : B) → Then (IsParams text) T w x → Front (is_mark mark.Open) w
  code_begins T w x h = then_starts (IsParams text) T (is_mark mark.Open) (params_begins text) w x h

  abbrev FieldLang : Word → Word → Lang Member
  FieldLang c n = Led (is_mark mark.Semicolon) nothing_of (λ _. End (member.Field (record { class = c; name = n })))

  abbrev BehindTwo : Word → Word → Lang Member
  BehindTwo c n = Or (FieldLang c n) (MethodLang c.place (sort.Class c) n)

  abbrev BehindOne : Word → Lang Member
  BehindOne c = Or (ConstructorLang c) (Led is_name (word_of text) (BehindTwo c))

  abbrev BehindResult : Place → Sort → Lang Member
  BehindResult at r = Led is_name (word_of text) (MethodLang at r)

  abbrev VoidMethod : Lang Member
  VoidMethod = Led (is_key key.Void) place_of (λ at. BehindResult at sort.Void)

  abbrev OpaqueMethod : Lang Member
  OpaqueMethod = Led is_opaque placed_opaque (λ o. BehindResult o.0 (sort.Opaque o.1))

  abbrev PlainMethod : Lang Member
  PlainMethod = Or VoidMethod OpaqueMethod

  abbrev MemberLang : Lang Member
  MemberLang = Or (Led is_name (word_of text) BehindOne) PlainMethod

  a_constructor : (t : Token) (n : Word) (u w : List Token) (z : Member) → IsName text t n → ConstructorLang n u z → w ≡ t ∷ u → IsMember text w z
  a_constructor t n u w z i l e =
      let b = l.4 in
      let s = b.3 in
      let c = s.4.1 in
      let at : n.place ≡ t.place = ap (λ (m : Word). m.place) i.word in
      let d : w ≡ t ∷ (l.1 ++ (b.0 ∷ (s.1 ++ c.0 ∷ []))) = e ∙ ap (λ m. t ∷ m) (l.5 ∙ ap (λ m. l.1 ++ m) (b.4 ∙ ap (λ m. b.0 ∷ m) (s.5 ∙ ap (λ m. s.1 ++ m) c.1))) in
      let placed : Place → Member = λ p. member.Constructor (record { place = p; result = sort.Void; name = n; params = l.0; clauses = []; body = s.0; value = None; end = c.0.place }) in
      let f : z ≡ placed t.place = s.4.2 ∙ ap (constructor_of n l.0 s.0) c.3 ∙ ap placed at in
      subst (IsMember text w) (sym f) (subst (λ m. IsMember text m (placed t.place)) (sym d) (constructor i l.3 (mark_to mark.Begin b.0 b.2) s.3 (mark_to mark.End c.0 c.2)))

  a_method : (s t : Token) (r : Sort) (n : Word) (u w : List Token) (z : Member) → IsResult text (s ∷ []) r → IsName text t n
      → MethodLang s.place r n u z → w ≡ s ∷ t ∷ u → IsMember text w z
  a_method first t r n u w z h i l e =
      let b = l.4 in
      let a = b.3 in
      let s = a.4 in
      let v = s.4 in
      let c = v.4.1 in
      let d : w ≡ first ∷ t ∷ (l.1 ++ (b.0 ∷ (a.1 ++ (s.1 ++ (v.1 ++ c.0 ∷ []))))) =
      e ∙ ap (λ m. first ∷ t ∷ m) (l.5 ∙ ap (λ m. l.1 ++ m) (b.4 ∙ ap (λ m. b.0 ∷ m) (a.5 ∙ ap (λ m. a.1 ++ m) (s.5 ∙ ap (λ m. s.1 ++ m) (v.5 ∙ ap (λ m. v.1 ++ m) c.1))))) in
      let f : z ≡ method_of first.place r n l.0 a.0 s.0 v.0 c.0.place = v.4.2 ∙ ap (method_of first.place r n l.0 a.0 s.0 v.0) c.3 in
      subst (IsMember text w) (sym f) (subst (λ m. IsMember text m (method_of first.place r n l.0 a.0 s.0 v.0 c.0.place)) (sym d)
      (method h i l.3 (mark_to mark.Begin b.0 b.2) (many_to (IsClause text) a.1 a.0 a.3) s.3 v.3 (mark_to mark.End c.0 c.2)))

  -- a name is what it was cut from
  named : (t : Token) → Is (is_name t.kind) → IsName text t (word_of text t)
  named t h = name_to text t (word_of text t) h refl

  behind_spelled : (s : Token) (r : Sort) (u w : List Token) (z : Member) → IsResult text (s ∷ []) r → BehindResult s.place r u z → w ≡ s ∷ u → IsMember text w z
  behind_spelled s r u w z h l e = a_method s l.0 r (word_of text l.0) l.1 w z h (named l.0 l.2) l.3 (e ∙ ap (λ m. s ∷ m) l.4)

  member_to : (w : List Token) (z : Member) → MemberLang w z → IsMember text w z
  member_to w z (inl h) = by h.3
    where
      by_two : (l : Led is_name (word_of text) (BehindTwo (word_of text h.0)) h.1 z) → BehindTwo (word_of text h.0) (word_of text l.0) l.1 z → IsMember text w z
      by_two l (inl f) =
          let e : w ≡ h.0 ∷ l.0 ∷ f.0 ∷ [] = h.4 ∙ ap (λ u. h.0 ∷ u) (l.4 ∙ ap (λ u. l.0 ∷ u) (f.4 ∙ ap (λ u. f.0 ∷ u) f.3.0)) in
          subst (IsMember text w) (sym f.3.1) (subst (λ m. IsMember text m (member.Field (record { class = word_of text h.0; name = word_of text l.0 }))) (sym e)
          (field (named h.0 h.2) (named l.0 l.2) (mark_to mark.Semicolon f.0 f.2)))
      by_two l (inr f) = a_method h.0 l.0 (sort.Class (word_of text h.0)) (word_of text l.0) l.1 w z (some_result (class_type (named h.0 h.2))) (named l.0 l.2) f (h.4 ∙ ap (λ u. h.0 ∷ u) l.4)

      by : BehindOne (word_of text h.0) h.1 z → IsMember text w z
      by (inl l) = a_constructor h.0 (word_of text h.0) h.1 w z (named h.0 h.2) l h.4
      by (inr l) = by_two l l.3
  member_to w z (inr (inl h)) = behind_spelled h.0 sort.Void h.1 w z (no_result (key_to key.Void h.0 h.2)) h.3 h.4
  member_to w z (inr (inr h)) = behind_spelled h.0 (sort.Opaque (opaque_of h.0)) h.1 w z (some_result (opaque_type (opaque_to h.0 h.2))) h.3 h.4

  member_from : (w : List Token) (z : Member) → IsMember text w z → MemberLang w z
  member_from w z (field {class = t} {name = u} {semicolon = k} {c = c} {n = n} i j h) =
      let e : ◌≡◌ {A = Member} (member.Field (record { class = c; name = n })) (member.Field (record { class = word_of text t; name = word_of text u })) =
      ap (λ (m : Word). member.Field (record { class = m; name = n })) i.word ∙ ap (λ (m : Word). member.Field (record { class = word_of text t; name = m })) j.word in
      inl (t, u ∷ k ∷ [], name_from text t c i, inr (u, k ∷ [], name_from text u n j, inl (k, [], mark_from mark.Semicolon k h, (refl, e), refl), refl), refl)
  member_from w z (constructor {name = t} {begin = b} {end = c} {n = n} {ts = ts} {us = us} {ps = ps} {xs = xs} i f j g l) =
      let placed : Word → Member = λ m. member.Constructor (record { place = t.place; result = sort.Void; name = m; params = ps; clauses = []; body = xs; value = None; end = c.place }) in
      let e : placed n ≡ constructor_of (word_of text t) ps xs c.place = ap placed i.word in
      inl (t, ts ++ (b ∷ (us ++ c ∷ [])), name_from text t n i, inl (ps, ts, b ∷ (us ++ c ∷ []), f, (b, us ++ c ∷ [], mark_from mark.Begin b j, (xs, us, c ∷ [], g, (c.place, (c, refl, mark_from mark.End c l, refl), e), refl), refl), refl), refl)
  member_from w z (method {result = s} {name = t} {begin = b} {end = c} {n = n} {ts = ts} {us = us} {vs = vs} {ws = ws} {r = r} {ps = ps} {cs = cs} {xs = xs} {x = x} h i f j g k v l) = by r h
    where
      tail : (r : Sort) → MethodLang s.place r (word_of text t) (ts ++ (b ∷ (us ++ (vs ++ (ws ++ c ∷ []))))) (method_of s.place r n ps cs xs x c.place)
      tail r =
          let e : method_of s.place r n ps cs xs x c.place ≡ method_of s.place r (word_of text t) ps cs xs x c.place = ap (λ (m : Word). method_of s.place r m ps cs xs x c.place) i.word in
          let last : ReturnTail (method_of s.place r (word_of text t) ps cs xs) (ws ++ c ∷ []) (method_of s.place r n ps cs xs x c.place) = (x, ws, c ∷ [], v, (c.place, (c, refl, mark_from mark.End c l, refl), e), refl) in
          (ps, ts, b ∷ (us ++ (vs ++ (ws ++ c ∷ []))), f, (b, us ++ (vs ++ (ws ++ c ∷ [])), mark_from mark.Begin b j, (cs, us, vs ++ (ws ++ c ∷ []), many_from (IsClause text) us cs g, (xs, vs, ws ++ c ∷ [], k, last, refl), refl), refl), refl)

      behind : (r : Sort) → BehindResult s.place r (t ∷ (ts ++ (b ∷ (us ++ (vs ++ (ws ++ c ∷ [])))))) (method_of s.place r n ps cs xs x c.place)
      behind r = (t, ts ++ (b ∷ (us ++ (vs ++ (ws ++ c ∷ [])))), name_from text t n i, tail r, refl)

      by_type : (r : Sort) → IsType text (s ∷ []) r → MemberLang (s ∷ t ∷ (ts ++ (b ∷ (us ++ (vs ++ (ws ++ c ∷ [])))))) (method_of s.place r n ps cs xs x c.place)
      by_type r (opaque_type {o = o} q) =
          let e : sort.Opaque (opaque_of s) ≡ sort.Opaque o = ap sort.Opaque (sym (opaque_same o s q)) in
          inr (inr (
            s,
            t ∷ (ts ++ (b ∷ (us ++ (vs ++ (ws ++ c ∷ []))))),
            opaque_from o s q,
            subst (λ (y : Sort). BehindResult s.place (sort.Opaque (opaque_of s)) (t ∷ (ts ++ (b ∷ (us ++ (vs ++ (ws ++ c ∷ [])))))) (method_of s.place y n ps cs xs x c.place)) e (behind (sort.Opaque (opaque_of s))),
            refl,
          ))
      by_type r (class_type {w = m} q) =
          let e : sort.Class (word_of text s) ≡ sort.Class m = ap sort.Class (sym q.word) in
          let y = subst (λ (y : Sort). BehindResult s.place (sort.Class (word_of text s)) (t ∷ (ts ++ (b ∷ (us ++ (vs ++ (ws ++ c ∷ [])))))) (method_of s.place y n ps cs xs x c.place)) e (behind (sort.Class (word_of text s))) in
          inl (s, t ∷ (ts ++ (b ∷ (us ++ (vs ++ (ws ++ c ∷ []))))), name_from text s m q, inr (y.0, y.1, y.2, inr y.3, y.4), refl)

      by : (r : Sort) → IsResult text (s ∷ []) r → MemberLang (s ∷ t ∷ (ts ++ (b ∷ (us ++ (vs ++ (ws ++ c ∷ [])))))) (method_of s.place r n ps cs xs x c.place)
      by r (no_result q) = inr (inl (s, t ∷ (ts ++ (b ∷ (us ++ (vs ++ (ws ++ c ∷ []))))), key_from key.Void s q, behind sort.Void, refl))
      by r (some_result {x = y} q) = by_type y q

  void_begins : (w : List Token) (x : Member) → VoidMethod w x → Front (is_key key.Void) w
  void_begins = led_starts (is_key key.Void) place_of (λ at. BehindResult at sort.Void)

  opaque_begins : (w : List Token) (x : Member) → OpaqueMethod w x → Front is_opaque w
  opaque_begins = led_starts is_opaque placed_opaque (λ o. BehindResult o.0 (sort.Opaque o.1))

  plain_begins : (w : List Token) (x : Member) → PlainMethod w x → Front PlainStarts w
  plain_begins w x (inl h) = front_less (is_key key.Void) PlainStarts (λ k f. or_left (is_key key.Void k) (is_opaque k) f) w (void_begins w x h)
  plain_begins w x (inr h) = front_less is_opaque PlainStarts (λ k f. or_right (is_key key.Void k) (is_opaque k) f) w (opaque_begins w x h)

  behind_within : (d : ℕ) (at : Place) (r : Sort) → ReadsWithin (behind_result text d at r) (BehindResult at r) none (suc d)
  behind_within d at r = led_within is_name (word_of text) kind.Name tt name_flat (method_within d at r)

  two_within : (d : ℕ) (c n : Word) → ReadsWithin (behind_two text d c n) (BehindTwo c n) none (suc d)
  two_within d c n =
      two_ways_within (is_mark mark.Semicolon) (is_mark mark.Open) (led_starts (is_mark mark.Semicolon) nothing_of (λ _. End (member.Field (record { class = c; name = n }))))
      (code_begins (λ ps. InBraces (ClausesTail (method_of c.place (sort.Class c) n ps)))) open_no_semicolon
      (led_within (is_mark mark.Semicolon) nothing_of (kind.Mark mark.Semicolon) tt (mark_flat mark.Semicolon (λ b. refl)) (λ _. got_within (member.Field (record { class = c; name = n })) none (suc d)))
      (method_within d c.place (sort.Class c) n)

  one_within : (d : ℕ) (c : Word) → ReadsWithin (behind_one text d c) (BehindOne c) none (suc d)
  one_within d c =
      two_ways_within (is_mark mark.Open) is_name (code_begins (λ ps. InBraces (StepsClose (constructor_of c ps)))) (led_starts is_name (word_of text) (BehindTwo c)) name_no_open
      (constructor_within d c) (led_within is_name (word_of text) kind.Name tt name_flat (two_within d c))

  member_within : (d : ℕ) → ReadsWithin (member_at text d) (IsMember text) none (suc d)
  unfolding member_at
  member_within d = respell_within member_to member_from
      (two_ways_within is_name PlainStarts (led_starts is_name (word_of text) BehindOne) plain_begins plain_no_name
      (led_within is_name (word_of text) kind.Name tt name_flat (one_within d))
      (two_ways_within (is_key key.Void) is_opaque void_begins opaque_begins opaque_no_void
      (led_within (is_key key.Void) place_of (kind.Key key.Void) tt (key_flat key.Void) (λ at. behind_within d at sort.Void))
      (led_within is_opaque placed_opaque (kind.Key key.Int) tt opaque_flat (λ o. behind_within d o.0 (sort.Opaque o.1)))))

  -- classes
  member_begins : (w : List Token) (z : Member) → IsMember text w z → Front member_starts w
  member_begins w z h = by (member_from w z h)
    where
      by : MemberLang w z → Front member_starts w
      by (inl l) = front_less is_name member_starts (λ k f. or_right (is_key key.Void k) (type_starts k) (or_left (is_name k) (is_opaque k) f)) w (led_starts is_name (word_of text) BehindOne w z l)
      by (inr (inl l)) = front_less (is_key key.Void) member_starts (λ k f. or_left (is_key key.Void k) (type_starts k) f) w (void_begins w z l)
      by (inr (inr l)) = front_less is_opaque member_starts (λ k f. or_right (is_key key.Void k) (type_starts k) (or_right (is_name k) (is_opaque k) f)) w (opaque_begins w z l)

  members_within : (d : ℕ) → ReadsWithin (members_at text d) (Star (IsMember text)) MembersGo (suc d)
  members_within d = repeated_within member_starts member_begins (no_none member_starts) (member_within d)

  abbrev class_made : Place → Word → List Member → Class
  class_made at n xs = record { place = at; name = n; members = xs }

  abbrev ClassBody : Place → Word → Lang Class
  ClassBody at n = Then (Star (IsMember text)) (λ xs. Mapped (One (is_mark mark.End) nothing_of) (λ _. class_made at n xs))

  abbrev ClassLang : Lang Class
  ClassLang = Led (is_key key.Class) place_of (λ at. Led is_name (word_of text) (λ n. InBraces (ClassBody at n)))

  class_to : (w : List Token) (z : Class) → ClassLang w z → IsClass text w z
  class_to w z h =
      let n = h.3 in
      let m = word_of text n.0 in
      let b = n.3 in
      let s = b.3 in
      let c = s.4.1 in
      let e : w ≡ h.0 ∷ n.0 ∷ b.0 ∷ (s.1 ++ c.0 ∷ []) = h.4 ∙ ap (λ u. h.0 ∷ u) (n.4 ∙ ap (λ u. n.0 ∷ u) (b.4 ∙ ap (λ u. b.0 ∷ u) (s.5 ∙ ap (λ u. s.1 ++ u) c.1))) in
      subst (IsClass text w) (sym s.4.2) (subst (λ k. IsClass text k (class_made h.0.place m s.0)) (sym e)
      (class (key_to key.Class h.0 h.2) (named n.0 n.2) (mark_to mark.Begin b.0 b.2) (many_to (IsMember text) s.1 s.0 s.3) (mark_to mark.End c.0 c.2)))

  class_from : (w : List Token) (z : Class) → IsClass text w z → ClassLang w z
  class_from w z (class {keyword = t} {name = u} {begin = b} {end = c} {n = n} {ts = ts} {xs = xs} i j k h l) =
      let e : class_made t.place n xs ≡ class_made t.place (word_of text u) xs = ap (λ (m : Word). class_made t.place m xs) j.word in (
        t,
        u ∷ b ∷ (ts ++ c ∷ []),
        key_from key.Class t i,
        (
          u,
          b ∷ (ts ++ c ∷ []),
          name_from text u n j,
          (
            b,
            ts ++ c ∷ [],
            mark_from mark.Begin b k,
            (xs, ts, c ∷ [], many_from (IsMember text) ts xs h, (tt, (c, refl, mark_from mark.End c l, refl), e), refl),
            refl,
          ),
          refl,
        ),
        refl,
      )

  class_within : (d : ℕ) → ReadsWithin (class_at text d) (IsClass text) none (suc (suc d))
  unfolding class_at
  class_within d = respell_within class_to class_from
      (led_within (is_key key.Class) place_of (kind.Key key.Class) tt (key_flat key.Class)
      (λ at. led_within is_name (word_of text) kind.Name tt name_flat
      (λ n. opened_within (is_mark mark.Begin) nothing_of (kind.Mark mark.Begin) tt begin_opens
      (λ _. both_closes (members_within d)
      (λ xs. mapped_closes (λ _. class_made at n xs) (take_closes (is_mark mark.End) nothing_of none (suc d) (kind.Mark mark.End) tt end_closes))
      (λ xs w k z h a. front_avoids (is_mark mark.End) MembersGo brace_no_member w k (subst (Front (is_mark mark.End)) (sym h.1.1) h.1.2))))))

  class_begins : (w : List Token) (z : Class) → IsClass text w z → Front (is_key key.Class) w
  class_begins w z (class {keyword = t} i j k h l) = key_from key.Class t i

  -- specifications
  abbrev SpecLang : Place → Lang Spec
  SpecLang end = Then (IsClass text) (λ x. Mapped (Star (IsClass text)) (λ xs. record { classes = x ∷ xs; end = end }))

  spec_to : (end : Place) (w : List Token) (z : Spec) → SpecLang end w z → IsSpec text end w z
  spec_to end w z h = subst (IsSpec text end w) (sym h.4.2) (subst (λ k. IsSpec text end k (record { classes = h.0 ∷ h.4.0; end = end })) (sym h.5) (spec h.3 (many_to (IsClass text) h.2 h.4.0 h.4.1)))

  spec_from : (end : Place) (w : List Token) (z : Spec) → IsSpec text end w z → SpecLang end w z
  spec_from end w z (spec {ts = ts} {us = us} {x = x} {xs = xs} h g) = (x, ts, us, h, (xs, many_from (IsClass text) us xs g, refl), refl)

  pub spec_within : (d : ℕ) (end : Place) → ReadsWithin (spec_at text d end) (IsSpec text end) SpecGoes (suc (suc d))
  unfolding spec_at
  spec_within d end = respell_within (spec_to end) (spec_from end)
      (both_within (class_within d)
      (λ x. mapped_within (λ xs. record { classes = x ∷ xs; end = end }) (repeated_within (is_key key.Class) class_begins (no_none (is_key key.Class)) (class_within d)))
      (λ x w k z h a. avoids_none (w ++ k)))
