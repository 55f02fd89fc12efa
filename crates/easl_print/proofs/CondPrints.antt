-- A condition that is printed and read again is the same one, places aside.
use Rattle.std.specs.Str.{all_scalars}
use Rattle.std.proofs.Common.{◌≡◌, ℕ, true, ◌||◌, List, [], ◌∷◌, ◌++◌, Option, Some, None, map, refl, sym, ap, ◌∙◌, subst}
use Rattle.easl_model.specs.{Clause, IsAll, IsAlls, IsAny, IsAtom, IsAtoms, IsComparison, IsFields, IsMark, IsPath, all_more, all_one, any_more, any_one}
use Rattle.easl_model.specs.{clause_of, clauses, comparison, differ, group, mark_text, more, named_path, next_all, next_atom, next_field, no_alls, no_atoms}
use Rattle.easl_model.specs.{no_fields, same, this_path, word_of}
use Rattle.easl_model.specs.Clauses.{Clauses, none}
use Rattle.easl_model.specs.Clauses as written
use Rattle.easl_model.specs.declared.token.Key.TheVariants as keyword
use Rattle.easl_model.specs.declared.token.Mark.{Mark}
use Rattle.easl_model.specs.declared.token.Mark.TheVariants as sign
use Rattle.easl_model.specs.declared.token.Token.{Token}
use Rattle.easl_model.specs.declared.tree.Cond.{Cond}
use Rattle.easl_model.specs.declared.tree.Cond.TheVariants as cond
use Rattle.easl_model.specs.declared.tree.Path.{Path}
use Rattle.easl_model.specs.declared.tree.Word.{Word}
use Rattle.cv_layout.specs.{Lexeme, bare_word, behind, key, mark, named, nowhere, parens}
use Rattle.easl_print.specs.Bare.{bare_path, bare, bare_all}
use Rattle.easl_print.specs.Lines.{fields, path, condition, in_all, in_any, is_any, is_all, parens_where}
use Rattle.easl_print.proofs.PlainSteps.{same_is, differ_is, all_is, any_is}
use Rattle.cv_layout.proofs.Enclosed.{enclosed}
use Rattle.cv_layout.proofs.Printed.{AreWritten, Prints}
use Rattle.cv_layout.proofs.Single.{is_mark, is_key, is_name, mark_proper, key_proper, name_proper, same_word}
use Rattle.cv_layout.proofs.Splits.{all_front, all_back, all_both, split, headed, ending}

-- places of paths aside
abbrev path_of : Option Word → List Word → Path
path_of h ws = record { head = h; place = nowhere; fields = ws }

module _ (text : List ℕ) where
  pub fields_print : (ts : List Token) (ws : List Word) → AreWritten text ts → IsFields text ts ws → Prints IsFields (map bare_word) (map bare_word ws)
      (fields ws)
  fields_print _ _ a no_fields =
      record { proper = tt; again = λ other us m. ([], subst (λ v. IsFields other v []) (sym (ending other us m)) no_fields, refl) }
  fields_print _ _ a (next_field {dot = d} {t = t} {w = w} {ts = ts} {ws = ws} k n f) =
      let rest = fields_print ts ws a.1.1 f in
      record {
        proper = (mark_proper sign.Dot refl, (name_proper text t w a.1.0 n, rest.proper));
        again = λ other us m.
            let x = headed other us (mark sign.Dot) (named w ∷ fields ws) m in
            let y = headed other x.1 (named w) (fields ws) x.4 in
            let r = rest.again other y.1 y.4 in
            let v = word_of other y.0 in (
              v ∷ r.0,
              subst (λ l. IsFields other l (v ∷ r.0)) (sym (x.2 ∙ ap (λ l. x.0 ∷ l) y.2))
                  (next_field (is_mark other sign.Dot x.0 x.3) (is_name text other t y.0 w a.1.0 n y.3) r.1),
              ap (λ l. bare_word v ∷ l) r.2 ∙ ap (λ u. u ∷ map bare_word ws) (same_word v w y.3.written),
            );
      }

  pub path_print : (ts : List Token) (p : Path) → AreWritten text ts → IsPath text ts p → Prints IsPath bare_path (bare_path p) (path p)
  path_print _ _ a (this_path {t = t} {ts = ts} {ws = ws} k f) =
      let rest = fields_print ts ws a.1 f in
      record {
        proper = (key_proper keyword.This refl, rest.proper);
        again = λ other us m.
            let x = headed other us (key keyword.This) (fields ws) m in
            let r = rest.again other x.1 x.4 in (
              record { head = None; place = x.0.place; fields = r.0 },
              subst (λ l. IsPath other l (record { head = None; place = x.0.place; fields = r.0 })) (sym x.2)
                  (this_path (is_key other keyword.This x.0 x.3) r.1),
              ap (λ l. path_of None l) r.2,
            );
      }
  path_print _ _ a (named_path {t = t} {w = w} {ts = ts} {ws = ws} n f) =
      let rest = fields_print ts ws a.1 f in
      record {
        proper = (name_proper text t w a.0 n, rest.proper);
        again = λ other us m.
            let x = headed other us (named w) (fields ws) m in
            let r = rest.again other x.1 x.4 in
            let v = word_of other x.0 in (
              record { head = Some v; place = v.place; fields = r.0 },
              subst (λ l. IsPath other l (record { head = Some v; place = v.place; fields = r.0 })) (sym x.2)
                  (named_path (is_name text other t x.0 w a.0 n x.3) r.1),
              ap (λ l. path_of (Some (bare_word v)) l) r.2 ∙ ap (λ u. path_of (Some u) (map bare_word ws)) (same_word v w x.3.written),
            );
      }

abbrev pub bare_cond : Cond → Clause
bare_cond x = bare (clause_of x)

abbrev pub bare_conds : List Cond → Clauses
bare_conds xs = bare_all (clauses (map clause_of xs))

-- the rule by which the condition can be spelled without parentheses of its own
abbrev pub Rule : Clause → List ℕ → List Token → Cond → Type 0
Rule (written.Same p q) = IsComparison
Rule (written.Differ p q) = IsComparison
Rule (written.All cs) = IsAll
Rule (written.Any cs) = IsAny

abbrev pub CondPrints : Clause → Type 0
CondPrints c = Prints (Rule c) bare_cond (bare c) (condition c)

abbrev pub Compared : Clause → Type 0
Compared c = Prints IsComparison bare_cond (bare c) (condition c)

-- one rule where another is asked
weaker : {S T : List ℕ → List Token → Cond → Type 0} {b : Clause} {xs : List Lexeme} →
    ((text : List ℕ) (ts : List Token) (y : Cond) → S text ts y → T text ts y) → Prints S bare_cond b xs → Prints T bare_cond b xs
weaker f h = record { proper = h.proper; again = λ other us m. let r = h.again other us m in (r.0, f other us r.0 r.1, r.2) }

grouped : (b : Clause) (xs : List Lexeme) → Prints IsAny bare_cond b xs → Prints IsAtom bare_cond b (parens xs)
grouped b xs h =
    enclosed (mark sign.Open) sign.Close (IsMark sign.Open) (mark_proper sign.Open refl) refl (λ t o i. is_mark t sign.Open o i)
    (λ o y. y) bare_cond (λ c. c) (λ o y. refl) (λ t o c ts y i k j. group i k j) b xs h

as_any : (c : Clause) → CondPrints c → Prints IsAny bare_cond (bare c) (condition c)
as_any (written.Same p q) h = weaker (λ t ts y s. any_one (all_one (comparison s))) h
as_any (written.Differ p q) h = weaker (λ t ts y s. any_one (all_one (comparison s))) h
as_any (written.All cs) h = weaker (λ t ts y s. any_one s) h
as_any (written.Any cs) h = h

as_all : (c : Clause) → CondPrints c → Prints IsAll bare_cond (bare c) (parens_where (is_any c) (condition c))
as_all (written.Same p q) h = weaker (λ t ts y s. all_one (comparison s)) h
as_all (written.Differ p q) h = weaker (λ t ts y s. all_one (comparison s)) h
as_all (written.All cs) h = h
as_all (written.Any cs) h = weaker (λ t ts y s. all_one s) (grouped (bare (written.Any cs)) (condition (written.Any cs)) h)

as_atom : (c : Clause) → CondPrints c → Prints IsAtom bare_cond (bare c) (parens_where (is_any c || is_all c) (condition c))
as_atom (written.Same p q) h = weaker (λ t ts y s. comparison s) h
as_atom (written.Differ p q) h = weaker (λ t ts y s. comparison s) h
as_atom (written.All cs) h = grouped (bare (written.All cs)) (condition (written.All cs)) (as_any (written.All cs) h)
as_atom (written.Any cs) h = grouped (bare (written.Any cs)) (condition (written.Any cs)) h

compared : (p q : Path) (c : Clause) (m : Mark) (make : Path → Path → Cond) → all_scalars (mark_text m) ≡ true
    → ((text : List ℕ) (t : Token) (ts us : List Token) (x y : Path) → IsPath text ts x → IsMark m t → IsPath text us y → IsComparison text (ts ++ t ∷ us)
    (make x y))
    → ((x y : Path) → bare_path x ≡ bare_path p → bare_path y ≡ bare_path q → bare_cond (make x y) ≡ bare c)
    → Prints IsPath bare_path (bare_path p) (path p) → Prints IsPath bare_path (bare_path q) (path q) → Prints IsComparison bare_cond (bare c)
    (path p ++ mark m ∷ path q)
compared p q c m make scalars rule moved f g = record {
  proper = all_both _ (path p) (mark m ∷ path q) f.proper (mark_proper m scalars, g.proper);
  again = λ other us i.
      let s = split other us (path p) (mark m ∷ path q) i in
      let x = headed other s.1 (mark m) (path q) s.4 in
      let a = f.again other s.0 s.3 in
      let b = g.again other x.1 x.4 in
      let e : us ≡ s.0 ++ x.0 ∷ x.1 = s.2 ∙ ap (λ l. s.0 ++ l) x.2 in (
        make a.0 b.0,
        subst (λ l. IsComparison other l (make a.0 b.0)) (sym e) (rule other x.0 s.0 x.1 a.0 b.0 a.1 (is_mark other m x.0 x.3) b.1),
        moved a.0 b.0 a.2 b.2,
      );
}

-- a mark and then one more
one_more : {S : List ℕ → List Token → Cond → Type 0} {Ss : List ℕ → List Token → List Cond → Type 0} (m : Mark) → all_scalars (mark_text m) ≡ true
    → ((text : List ℕ) (t : Token) (ts us : List Token) (x : Cond) (xs : List Cond) → IsMark m t → S text ts x → Ss text us xs → Ss text (t ∷ ts ++ us)
    (x ∷ xs))
    → (b : Clause) (bs : Clauses) (xs ys : List Lexeme) → Prints S bare_cond b xs → Prints Ss bare_conds bs ys → Prints Ss bare_conds (more b bs)
    (mark m ∷ xs ++ ys)
one_more {S} {Ss} m scalars rule b bs xs ys f g = record {
  proper = (mark_proper m scalars, all_both _ xs ys f.proper g.proper);
  again = λ other us i.
      let x = headed other us (mark m) (xs ++ ys) i in
      let s = split other x.1 xs ys x.4 in
      let a = f.again other s.0 s.3 in
      let c = g.again other s.1 s.4 in
      let e : us ≡ x.0 ∷ s.0 ++ s.1 = x.2 ∙ ap (λ l. x.0 ∷ l) s.2 in (
        a.0 ∷ c.0,
        subst (λ l. Ss other l (a.0 ∷ c.0)) (sym e) (rule other x.0 s.0 s.1 a.0 c.0 (is_mark other m x.0 x.3) a.1 c.1),
        ap (λ u. more u (bare_conds c.0)) a.2 ∙ ap (λ u. more b u) c.2,
      );
}

nothing_more : {Ss : List ℕ → List Token → List Cond → Type 0} → ((text : List ℕ) → Ss text [] []) → Prints Ss bare_conds none []
nothing_more {Ss} rule = record { proper = tt; again = λ other us m. ([], subst (λ v. Ss other v []) (sym (ending other us m)) (rule other), refl) }

-- one and then one or more
several : {S T : List ℕ → List Token → Cond → Type 0} {Ss : List ℕ → List Token → List Cond → Type 0} (make : List Cond → Cond) (of : Clauses → Clause)
    → ((text : List ℕ) (ts us : List Token) (x y : Cond) (ys : List Cond) → S text ts x → Ss text us (y ∷ ys) → T text (ts ++ us) (make (x ∷ y ∷ ys)))
    → ((x : Cond) (xs : List Cond) → bare_cond (make (x ∷ xs)) ≡ of (more (bare_cond x) (bare_conds xs)))
    → (b c : Clause) (cs : Clauses) (xs ys : List Lexeme) → Prints S bare_cond b xs → Prints Ss bare_conds (more c cs) ys → Prints T bare_cond
    (of (more b (more c cs))) (xs ++ ys)
several {S} {T} {Ss} make of rule moved b c cs xs ys f g = record {
  proper = all_both _ xs ys f.proper g.proper;
  again = λ other us i.
      let s = split other us xs ys i in
      let a = f.again other s.0 s.3 in
      let d = g.again other s.1 s.4 in
      by other us s.0 s.1 s.2 a.0 d.0 a.1 d.1 a.2 d.2;
}
  where
    by : (other : List ℕ) (us vs ws : List Token) → us ≡ vs ++ ws → (x : Cond) (zs : List Cond) → S other vs x → Ss other ws zs → bare_cond x ≡ b
        → bare_conds zs ≡ more c cs → (y : Cond) × T other us y × (bare_cond y ≡ of (more b (more c cs)))
    by other us vs ws e x [] h i j k = cc
    by other us vs ws e x (z ∷ zs) h i j k = (
      make (x ∷ z ∷ zs),
      subst (λ l. T other l (make (x ∷ z ∷ zs))) (sym e) (rule other vs ws x z zs h i),
      moved x
          (z ∷ zs) ∙ ap (λ u. of (more u (bare_conds (z ∷ zs)))) j ∙ ap (λ u. of (more b u)) k,
    )

module _ (text : List ℕ) where
  pub comparison_print : (ts : List Token) (x : Cond) → AreWritten text ts → IsComparison text ts x → Compared (clause_of x)
  comparison_print _ _ a (same {t = t} {ts = ts} {us = us} {p = p} {q = q} f k g) =
      subst Compared (sym (same_is p q))
      (compared p q (written.Same p q) sign.Same cond.Same refl (λ o t ts us x y i j k. same i j k)
      (λ x y e f. ap bare (same_is x y) ∙ ap (λ z. written.Same z (bare_path y)) e ∙ ap (λ z. written.Same (bare_path p) z) f)
      (path_print text ts p (all_front _ ts (t ∷ us) a) f) (path_print text us q ((all_back _ ts (t ∷ us) a).1) g))
  comparison_print _ _ a (differ {t = t} {ts = ts} {us = us} {p = p} {q = q} f k g) =
      subst Compared (sym (differ_is p q))
      (compared p q (written.Differ p q) sign.Differ cond.Differ refl (λ o t ts us x y i j k. differ i j k)
      (λ x y e f. ap bare (differ_is x y) ∙ ap (λ z. written.Differ z (bare_path y)) e ∙ ap (λ z. written.Differ (bare_path p) z) f)
      (path_print text ts p (all_front _ ts (t ∷ us) a) f) (path_print text us q ((all_back _ ts (t ∷ us) a).1) g))

  as_condition : (ts : List Token) (x : Cond) → IsComparison text ts x → Compared (clause_of x) → CondPrints (clause_of x)
  as_condition _ _ (same {p = p} {q = q} f k g) h = subst CondPrints (sym (same_is p q)) (subst Compared (same_is p q) h)
  as_condition _ _ (differ {p = p} {q = q} f k g) h = subst CondPrints (sym (differ_is p q)) (subst Compared (differ_is p q) h)

  abbrev Several : (List ℕ → List Token → List Cond → Type 0) → (Clauses → List Lexeme) → List Cond → Type 0
  Several Ss print xs = Prints Ss bare_conds (bare_conds xs) (print (clauses (map clause_of xs)))

  mutual
    pub any_print : (ts : List Token) (x : Cond) → AreWritten text ts → IsAny text ts x → CondPrints (clause_of x)
    any_print ts x a (any_one h) = all_print ts x a h
    any_print _ _ a (any_more {ts = ts} {us = us} {x = x} {y = y} {ys = ys} h hs) =
        subst CondPrints (sym (any_is (x ∷ y ∷ ys)))
        (several cond.Any written.Any (λ t ts us x y ys i k. any_more i k) (λ x xs. ap bare (any_is (x ∷ xs))) _ _ _ _ _
        (as_all (clause_of x) (all_print ts x (all_front _ ts us a) h)) (alls_print us (y ∷ ys) (all_back _ ts us a) hs))

    alls_print : (ts : List Token) (xs : List Cond) → AreWritten text ts → IsAlls text ts xs → Several IsAlls (λ cs. behind sign.Or (in_any cs)) xs
    alls_print _ _ a no_alls = nothing_more (λ t. no_alls)
    alls_print _ _ a (next_all {ts = ts} {us = us} {x = x} {xs = xs} k h hs) =
        one_more sign.Or refl (λ t u ts us x xs k i j. next_all k i j) _ _ _ _
        (as_all (clause_of x) (all_print ts x (all_front _ ts us a.1) h)) (alls_print us xs (all_back _ ts us a.1) hs)

    all_print : (ts : List Token) (x : Cond) → AreWritten text ts → IsAll text ts x → CondPrints (clause_of x)
    all_print ts x a (all_one h) = atom_print ts x a h
    all_print _ _ a (all_more {ts = ts} {us = us} {x = x} {y = y} {ys = ys} h hs) =
        subst CondPrints (sym (all_is (x ∷ y ∷ ys)))
        (several cond.All written.All (λ t ts us x y ys i k. all_more i k) (λ x xs. ap bare (all_is (x ∷ xs))) _ _ _ _ _
        (as_atom (clause_of x) (atom_print ts x (all_front _ ts us a) h)) (atoms_print us (y ∷ ys) (all_back _ ts us a) hs))

    atoms_print : (ts : List Token) (xs : List Cond) → AreWritten text ts → IsAtoms text ts xs → Several IsAtoms (λ cs. behind sign.And (in_all cs)) xs
    atoms_print _ _ a no_atoms = nothing_more (λ t. no_atoms)
    atoms_print _ _ a (next_atom {ts = ts} {us = us} {x = x} {xs = xs} k h hs) =
        one_more sign.And refl (λ t u ts us x xs k i j. next_atom k i j) _ _ _ _
        (as_atom (clause_of x) (atom_print ts x (all_front _ ts us a.1) h)) (atoms_print us xs (all_back _ ts us a.1) hs)

    atom_print : (ts : List Token) (x : Cond) → AreWritten text ts → IsAtom text ts x → CondPrints (clause_of x)
    atom_print ts x a (comparison h) = as_condition ts x h (comparison_print ts x a h)
    atom_print _ _ a (group {closing = c} {ts = ts} {x = x} k h l) = any_print ts x (all_front _ ts (c ∷ []) a.1) h

-- what is printed of a condition spells it again
pub condition_print : (text : List ℕ) (ts : List Token) (x : Cond) → AreWritten text ts → IsAny text ts x → Prints IsAny bare_cond (bare_cond x)
    (condition (clause_of x))
condition_print text ts x a h = as_any (clause_of x) (any_print text ts x a h)
