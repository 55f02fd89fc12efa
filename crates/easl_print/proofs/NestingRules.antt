-- Each rule prints what nests no deeper than the tokens that it read.
use Rattle.std.proofs.Common.{◌≡◌, ℕ, Bool, true, false, ◌||◌, List, [], ◌∷◌, ◌++◌, Option, Some, None, map, flat_map, append_assoc, append-nil, refl, sym, ap, ◌∙◌, subst}
use Rattle.easl_model.specs.{Clause, IsAll, IsAlls, IsAny, IsArg, IsAtom, IsAtoms, IsBlock, IsClass, IsClause, IsComparison, IsFields, IsGuard, IsMember}
use Rattle.easl_model.specs.{IsParam, IsParams, IsPath, IsResult, IsReturn, IsSet, IsSpec, IsStep, IsSteps, IsType, IsValue, Written, all_more, all_one}
use Rattle.easl_model.specs.{any_more, any_one, assign, block, block_of, class, class_type, clause, clause_of, clauses, comparison, constructor, declare}
use Rattle.easl_model.specs.{differ, field, group, guard, if_alone, if_else, literal_arg, method, more, named_path, new_value, next_all, next_atom}
use Rattle.easl_model.specs.{next_field, next_step, no_alls, no_atoms, no_fields, no_result, no_steps, opaque_key, opaque_type, param, params, path_arg}
use Rattle.easl_model.specs.{path_value, same, set, some_result, spec, this_path, with_return, written_of}
use Rattle.easl_model.specs.Clauses.{Clauses, none}
use Rattle.easl_model.specs.Clauses as written
use Rattle.easl_model.specs.Grammar.{no_return}
use Rattle.easl_model.specs.declared.place.Place.{Place}
use Rattle.easl_model.specs.declared.token.Key.TheVariants as keyword
use Rattle.easl_model.specs.declared.token.Mark.TheVariants as sign
use Rattle.easl_model.specs.declared.token.Token.{Token}
use Rattle.easl_model.specs.declared.tree.Arg.{Arg}
use Rattle.easl_model.specs.declared.tree.Class.{Class}
use Rattle.easl_model.specs.declared.tree.Cond.{Cond}
use Rattle.easl_model.specs.declared.tree.Member.{Member}
use Rattle.easl_model.specs.declared.tree.Param.{Param}
use Rattle.easl_model.specs.declared.tree.Path.{Path}
use Rattle.easl_model.specs.declared.tree.Requires.{Requires}
use Rattle.easl_model.specs.declared.tree.Return.{Return}
use Rattle.easl_model.specs.declared.tree.Sort.{Sort}
use Rattle.easl_model.specs.declared.tree.Spec.{Spec}
use Rattle.easl_model.specs.declared.tree.Step.{Step}
use Rattle.easl_model.specs.declared.tree.Value.{Value}
use Rattle.easl_model.specs.declared.tree.Word.{Word}
use Rattle.cv_layout.specs.{Lexeme, behind, key, mark, named, parens}
use Rattle.easl_print.specs.Lines.{head, fields, path, is_any, is_all, parens_where, condition, in_all, in_any, argument, arguments, value, sort}
use Rattle.easl_print.specs.Lines as lines
use Rattle.easl_print.proofs.BodyPrints.{brace, step_tokens, block_tokens}
use Rattle.easl_print.proofs.MemberPrints.{clause_tokens, return_tokens, member_tokens, class_tokens}
use Rattle.easl_print.proofs.PlainSteps.{same_is, differ_is, all_is, any_is, declare_is, assign_is, if_is}
use Rattle.cv_layout.proofs.ListNests.{then, listed_nest, many_nest, literal_nest}
use Rattle.cv_layout.proofs.Nesting.{Nests, level_of, level_append, nests_nothing, nests_both, nests_key, nests_mark, nests_name, nests_parens, nests_braces, nests_loose, nests_bare}
use Rattle.cv_layout.proofs.Printed.{AreWritten}
use Rattle.cv_layout.proofs.Splits.{all_front, all_back}

abbrev StepNests : List Token → Written → Type 0
StepNests ts w = Nests ts (step_tokens w)

-- conditions close what they open
even_fields : (ws : List Word) (b : ℕ) → level_of b (fields ws) ≡ b
even_fields [] b = refl
even_fields (w ∷ ws) b = even_fields ws b

even_path : (p : Path) (b : ℕ) → level_of b (path p) ≡ b
even_path p b = by p.head
  where
    by : (h : Option Word) → level_of b (head h ∷ fields p.fields) ≡ b
    by None = even_fields p.fields b
    by (Some w) = even_fields p.fields b

even_in : (w : Bool) (xs : List Lexeme) → ((b : ℕ) → level_of b xs ≡ b) → (b : ℕ) → level_of b (parens_where w xs) ≡ b
even_in true xs e b = level_append _ xs (mark sign.Close ∷ []) ∙ ap (λ l. level_of l (mark sign.Close ∷ [])) (e _)
even_in false xs e b = e b

even_two : (xs ys : List Lexeme) (b : ℕ) → level_of b xs ≡ b → level_of b ys ≡ b → level_of b (xs ++ ys) ≡ b
even_two xs ys b e f = level_append b xs ys ∙ ap (λ l. level_of l ys) e ∙ f

mutual
  even_condition : (c : Clause) (b : ℕ) → level_of b (condition c) ≡ b
  even_condition (written.Same p q) b = even_two (path p) (mark sign.Same ∷ path q) b (even_path p b) (even_path q b)
  even_condition (written.Differ p q) b = even_two (path p) (mark sign.Differ ∷ path q) b (even_path p b) (even_path q b)
  even_condition (written.All none) b = refl
  even_condition (written.All (more c cs)) b =
      even_two (parens_where (is_any c || is_all c) (condition c)) (behind sign.And (in_all cs)) b
      (even_in (is_any c || is_all c) (condition c) (λ l. even_condition c l) b) (even_atoms cs b)
  even_condition (written.Any none) b = refl
  even_condition (written.Any (more c cs)) b =
      even_two (parens_where (is_any c) (condition c)) (behind sign.Or (in_any cs)) b (even_in (is_any c) (condition c) (λ l. even_condition c l) b)
      (even_alls cs b)

  even_atoms : (cs : Clauses) (b : ℕ) → level_of b (behind sign.And (in_all cs)) ≡ b
  even_atoms none b = refl
  even_atoms (more c cs) b =
      even_two (parens_where (is_any c || is_all c) (condition c)) (behind sign.And (in_all cs)) b
      (even_in (is_any c || is_all c) (condition c) (λ l. even_condition c l) b) (even_atoms cs b)

  even_alls : (cs : Clauses) (b : ℕ) → level_of b (behind sign.Or (in_any cs)) ≡ b
  even_alls none b = refl
  even_alls (more c cs) b =
      even_two (parens_where (is_any c) (condition c)) (behind sign.Or (in_any cs)) b (even_in (is_any c) (condition c) (λ l. even_condition c l) b)
      (even_alls cs b)

-- as a member of an `all`, as a member of an `any`, and alone
abbrev pub AsAtom : List Token → Clause → Type 0
AsAtom ts c = Nests ts (parens_where (is_any c || is_all c) (condition c))

abbrev pub AsAll : List Token → Clause → Type 0
AsAll ts c = Nests ts (parens_where (is_any c) (condition c))

abbrev pub AsAny : List Token → Clause → Type 0
AsAny ts c = Nests ts (condition c)

all_from : (ts : List Token) (c : Clause) → AsAtom ts c → AsAll ts c
all_from ts (written.Same p q) f = f
all_from ts (written.Differ p q) f = f
all_from ts (written.All cs) f = nests_bare ts (condition (written.All cs)) (even_condition (written.All cs)) f
all_from ts (written.Any cs) f = f

any_from : (ts : List Token) (c : Clause) → AsAll ts c → AsAny ts c
any_from ts (written.Same p q) f = f
any_from ts (written.Differ p q) f = f
any_from ts (written.All cs) f = f
any_from ts (written.Any cs) f = nests_bare ts (condition (written.Any cs)) (even_condition (written.Any cs)) f

module _ (text : List ℕ) where
  fields_nest : (ts : List Token) (ws : List Word) → AreWritten text ts → IsFields text ts ws → Nests ts (fields ws)
  fields_nest _ _ a no_fields = nests_nothing
  fields_nest _ _ a (next_field {dot = d} {t = t} {w = w} {ts = ts} {ws = ws} k n f) =
      then d (t ∷ ts) (mark sign.Dot) (named w ∷ fields ws) (nests_mark sign.Dot d k (λ b. refl))
      (then t ts (named w) (fields ws) (nests_name text t w a.1.0 n) (fields_nest ts ws a.1.1 f))

  path_nest : (ts : List Token) (p : Path) → AreWritten text ts → IsPath text ts p → Nests ts (path p)
  path_nest _ _ a (this_path {t = t} {ts = ts} {ws = ws} k f) =
      then t ts (key keyword.This) (fields ws) (nests_key keyword.This t k) (fields_nest ts ws a.1 f)
  path_nest _ _ a (named_path {t = t} {w = w} {ts = ts} {ws = ws} n f) = then t ts (named w) (fields ws) (nests_name text t w a.0 n) (fields_nest ts ws a.1 f)

  comparison_nest : (ts : List Token) (x : Cond) → AreWritten text ts → IsComparison text ts x → AsAtom ts (clause_of x)
  comparison_nest _ _ a (same {t = t} {ts = ts} {us = us} {p = p} {q = q} f k g) =
      subst (AsAtom (ts ++ t ∷ us)) (sym (same_is p q)) (nests_both ts (t ∷ us) (path p) _ (path_nest ts p (all_front _ ts (t ∷ us) a) f)
      (then t us (mark sign.Same) (path q) (nests_mark sign.Same t k (λ b. refl)) (path_nest us q ((all_back _ ts (t ∷ us) a).1) g)))
  comparison_nest _ _ a (differ {t = t} {ts = ts} {us = us} {p = p} {q = q} f k g) =
      subst (AsAtom (ts ++ t ∷ us)) (sym (differ_is p q)) (nests_both ts (t ∷ us) (path p) _ (path_nest ts p (all_front _ ts (t ∷ us) a) f)
      (then t us (mark sign.Differ) (path q) (nests_mark sign.Differ t k (λ b. refl)) (path_nest us q ((all_back _ ts (t ∷ us) a).1) g)))

  mutual
    any_nest : (ts : List Token) (x : Cond) → AreWritten text ts → IsAny text ts x → AsAny ts (clause_of x)
    any_nest ts x a (any_one h) = any_from ts (clause_of x) (all_nest ts x a h)
    any_nest _ _ a (any_more {ts = ts} {us = us} {x = x} {y = y} {ys = ys} h hs) =
        subst (AsAny (ts ++ us)) (sym (any_is (x ∷ y ∷ ys)))
        (nests_both ts us _ _ (all_nest ts x (all_front _ ts us a) h) (alls_nest us (y ∷ ys) (all_back _ ts us a) hs))

    alls_nest : (ts : List Token) (xs : List Cond) → AreWritten text ts → IsAlls text ts xs → Nests ts (behind sign.Or (in_any (clauses (map clause_of xs))))
    alls_nest _ _ a no_alls = nests_nothing
    alls_nest _ _ a (next_all {t = t} {ts = ts} {us = us} {x = x} {xs = xs} k h hs) =
        then t (ts ++ us) (mark sign.Or) _ (nests_mark sign.Or t k (λ b. refl))
        (nests_both ts us _ _ (all_nest ts x (all_front _ ts us a.1) h) (alls_nest us xs (all_back _ ts us a.1) hs))

    all_nest : (ts : List Token) (x : Cond) → AreWritten text ts → IsAll text ts x → AsAll ts (clause_of x)
    all_nest ts x a (all_one h) = all_from ts (clause_of x) (atom_nest ts x a h)
    all_nest _ _ a (all_more {ts = ts} {us = us} {x = x} {y = y} {ys = ys} h hs) =
        subst (AsAll (ts ++ us)) (sym (all_is (x ∷ y ∷ ys)))
        (nests_both ts us _ _ (atom_nest ts x (all_front _ ts us a) h) (atoms_nest us (y ∷ ys) (all_back _ ts us a) hs))

    atoms_nest : (ts : List Token) (xs : List Cond) → AreWritten text ts → IsAtoms text ts xs → Nests ts
        (behind sign.And (in_all (clauses (map clause_of xs))))
    atoms_nest _ _ a no_atoms = nests_nothing
    atoms_nest _ _ a (next_atom {t = t} {ts = ts} {us = us} {x = x} {xs = xs} k h hs) =
        then t (ts ++ us) (mark sign.And) _ (nests_mark sign.And t k (λ b. refl))
        (nests_both ts us _ _ (atom_nest ts x (all_front _ ts us a.1) h) (atoms_nest us xs (all_back _ ts us a.1) hs))

    atom_nest : (ts : List Token) (x : Cond) → AreWritten text ts → IsAtom text ts x → AsAtom ts (clause_of x)
    atom_nest ts x a (comparison h) = comparison_nest ts x a h
    atom_nest _ _ a (group {opening = o} {closing = c} {ts = ts} {x = x} k h l) =
        by (is_any (clause_of x) || is_all (clause_of x)) (any_nest ts x (all_front _ ts (c ∷ []) a.1) h)
      where
        by : (w : Bool) → AsAny ts (clause_of x) → Nests (o ∷ ts ++ c ∷ []) (parens_where w (condition (clause_of x)))
        by true f = nests_parens o c ts _ k l f
        by false f = nests_loose o c ts _ k l f

  arg_nest : (ts : List Token) (x : Arg) → AreWritten text ts → IsArg text ts x → Nests ts (argument x)
  arg_nest ts _ a (path_arg {p = p} h) = path_nest ts p a h
  arg_nest _ _ a (literal_arg {t = t} {w = w} l) = literal_nest text t w a.0 l

  value_nest : (ts : List Token) (x : Value) → AreWritten text ts → IsValue text ts x → Nests ts (value x)
  value_nest ts _ a (path_value {p = p} h) = path_nest ts p a h
  value_nest _ _ a (new_value {new = new} {class = typed} {opening = o} {closing = z} {c = c} {ts = ts} {xs = xs} k n h l e) =
      then new (typed ∷ o ∷ ts ++ z ∷ []) (key keyword.New) _ (nests_key keyword.New new k)
      (then typed (o ∷ ts ++ z ∷ []) (named c) _ (nests_name text typed c a.1.0 n)
      (nests_parens o z ts (arguments xs) h e (listed_nest text (IsArg text) argument arg_nest ts xs (all_front _ ts (z ∷ []) a.1.1.1) l)))

  set_nest : (ts : List Token) (x : Value) → AreWritten text ts → IsSet text ts x → Nests ts (lines.set x)
  set_nest _ x a (set {assign = s} {semicolon = e} {ts = ts} k h l) =
      then s (ts ++ e ∷ []) (mark sign.Assign) _ (nests_mark sign.Assign s k (λ b. refl))
      (nests_both ts (e ∷ []) (value x) _ (value_nest ts x (all_front _ ts (e ∷ []) a.1) h) (nests_mark sign.Semicolon e l (λ b. refl)))

  guard_nest : (ts : List Token) (x : Cond) → AreWritten text ts → IsGuard text ts x → Nests ts (parens (condition (clause_of x)))
  guard_nest _ x a (guard {opening = o} {closing = z} {ts = ts} k h l) =
      nests_parens o z ts _ k l (any_from ts (clause_of x) (all_from ts (clause_of x) (comparison_nest ts x (all_front _ ts (z ∷ []) a.1) h)))

  mutual
    step_nest : (ts : List Token) (x : Step) → AreWritten text ts → IsStep text ts x → Nests ts (step_tokens (written_of x))
    step_nest _ _ a (declare {class = typed} {name = name} {c = c} {n = n} {ts = ts} {x = x} i j h) =
        subst (StepNests (typed ∷ name ∷ ts)) (sym (declare_is c n x))
        (then typed (name ∷ ts) (named c) _ (nests_name text typed c a.0 i)
        (then name ts (named n) _ (nests_name text name n a.1.0 j) (set_nest ts x a.1.1 h)))
    step_nest _ _ a (assign {ts = ts} {us = us} {p = p} {x = x} h k) =
        subst (StepNests (ts ++ us)) (sym (assign_is p x)) (nests_both ts us (path p) _ (path_nest ts p (all_front _ ts us a) h)
        (set_nest us x (all_back _ ts us a) k))
    step_nest _ _ a (if_alone {keyword = k} {ts = ts} {us = us} {c = c} {xs = xs} i g b) =
        let one = brace (block_tokens (block_of xs)) in
        subst (StepNests (k ∷ (ts ++ us))) (sym (if_is k.place c xs [] false))
        (then k (ts ++ us) (key keyword.If) _ (nests_key keyword.If k i)
        (nests_both ts us (parens (condition (clause_of c))) _ (guard_nest ts c (all_front _ ts us a.1) g)
        (subst (Nests us) (sym (append-nil one)) (block_nest us xs (all_back _ ts us a.1) b))))
    step_nest _ _ a (if_else {keyword = k} {other = o} {ts = ts} {us = us} {vs = vs} {c = c} {xs = xs} {ys = ys} i g b j d) =
        let behind = all_back _ ts (us ++ o ∷ vs) a.1 in
        subst (StepNests (k ∷ (ts ++ (us ++ o ∷ vs)))) (sym (if_is k.place c xs ys true))
        (then k (ts ++ (us ++ o ∷ vs)) (key keyword.If) _ (nests_key keyword.If k i)
        (nests_both ts (us ++ o ∷ vs) (parens (condition (clause_of c))) _ (guard_nest ts c (all_front _ ts (us ++ o ∷ vs) a.1) g)
        (nests_both us (o ∷ vs) (brace (block_tokens (block_of xs))) _ (block_nest us xs (all_front _ us (o ∷ vs) behind) b)
        (then o vs (key keyword.Else) _ (nests_key keyword.Else o j) (block_nest vs ys (all_back _ us (o ∷ vs) behind).1 d)))))

    block_nest : (ts : List Token) (xs : List Step) → AreWritten text ts → IsBlock text ts xs → Nests ts (brace (block_tokens (block_of xs)))
    block_nest _ xs a (block {begin = o} {end = z} {ts = ts} k h l) = nests_braces o z ts _ k l (steps_nest ts xs (all_front _ ts (z ∷ []) a.1) h)

    steps_nest : (ts : List Token) (xs : List Step) → AreWritten text ts → IsSteps text ts xs → Nests ts (block_tokens (block_of xs))
    steps_nest _ _ a no_steps = nests_nothing
    steps_nest _ _ a (next_step {ts = ts} {us = us} {x = x} {xs = xs} h hs) =
        nests_both ts us _ _ (step_nest ts x (all_front _ ts us a) h) (steps_nest us xs (all_back _ ts us a) hs)

  clause_nest : (ts : List Token) (x : Requires) → AreWritten text ts → IsClause text ts x → Nests ts (clause_tokens x)
  clause_nest _ _ a (clause {requires = r} {semicolon = e} {ts = ts} {x = x} k h l) =
      then r (ts ++ e ∷ []) (key keyword.Requires) _ (nests_key keyword.Requires r k)
      (nests_both ts (e ∷ []) (condition (clause_of x)) _ (any_nest ts x (all_front _ ts (e ∷ []) a.1) h) (nests_mark sign.Semicolon e l (λ b. refl)))

  return_nest : (ts : List Token) (x : Option Return) → AreWritten text ts → IsReturn text ts x → Nests ts (return_tokens x)
  return_nest _ _ a no_return = nests_nothing
  return_nest _ _ a (with_return {return = r} {semicolon = e} {ts = ts} {x = x} k h l) =
      then r (ts ++ e ∷ []) (key keyword.Return) _ (nests_key keyword.Return r k)
      (nests_both ts (e ∷ []) (value x) _ (value_nest ts x (all_front _ ts (e ∷ []) a.1) h) (nests_mark sign.Semicolon e l (λ b. refl)))

  type_nest : (ts : List Token) (x : Sort) → AreWritten text ts → IsType text ts x → Nests ts (sort x ∷ [])
  type_nest _ _ a (opaque_type {t = t} {o = o} k) = nests_key (opaque_key o) t k
  type_nest _ _ a (class_type {t = t} {w = w} n) = nests_name text t w a.0 n

  result_nest : (ts : List Token) (x : Sort) → AreWritten text ts → IsResult text ts x → Nests ts (sort x ∷ [])
  result_nest _ _ a (no_result {t = t} k) = nests_key keyword.Void t k
  result_nest ts x a (some_result h) = type_nest ts x a h

  param_nest : (ts : List Token) (x : Param) → AreWritten text ts → IsParam text ts x → Nests ts (lines.param x)
  param_nest _ _ a (param {t = t} {name = name} {n = n} {x = x} h i) =
      then t (name ∷ []) (sort x) _ (type_nest (t ∷ []) x (a.0, tt) h) (nests_name text name n a.1.0 i)

  params_nest : (ts : List Token) (xs : List Param) → AreWritten text ts → IsParams text ts xs → Nests ts (lines.params xs)
  params_nest _ xs a (params {opening = o} {closing = z} {ts = ts} h l e) =
      nests_parens o z ts _ h e (listed_nest text (IsParam text) lines.param param_nest ts xs (all_front _ ts (z ∷ []) a.1) l)

  member_nest : (ts : List Token) (x : Member) → AreWritten text ts → IsMember text ts x → Nests ts (member_tokens x)
  member_nest _ _ a (field {class = typed} {name = name} {semicolon = e} {c = c} {n = n} i j k) =
      then typed (name ∷ e ∷ []) (named c) _ (nests_name text typed c a.0 i)
      (then name (e ∷ []) (named n) _ (nests_name text name n a.1.0 j) (nests_mark sign.Semicolon e k (λ b. refl)))
  member_nest _ _ a (constructor {name = name} {begin = o} {end = z} {n = n} {ts = ts} {us = us} {ps = ps} {xs = xs} i p b h e) =
      let tail = o ∷ (us ++ z ∷ []) in
      let body = steps_nest us xs (all_front _ us (z ∷ []) ((all_back _ ts tail a.1).1)) h in
      let steps = block_tokens (block_of xs) in
      then name (ts ++ tail) (named n) _ (nests_name text name n a.0 i)
      (nests_both ts tail (lines.params ps) _ (params_nest ts ps (all_front _ ts tail a.1) p)
      (nests_braces o z us _ b e (subst (Nests us) (sym (append-nil steps)) body)))
  member_nest _ _ a
      (method {result = result} {name = name} {begin = o} {end = z} {n = n} {ts = ts} {us = us} {vs = vs}
      {ws = ws} {r = res} {ps = ps} {cs = cs} {xs = xs} {x = x} k i p b c h w e) =
      let inner = us ++ (vs ++ (ws ++ z ∷ [])) in
      let tail = o ∷ inner in
      let a2 = (all_back _ ts tail a.1.1).1 in
      let a3 = all_back _ us (vs ++ (ws ++ z ∷ [])) a2 in
      let a4 = all_back _ vs (ws ++ z ∷ []) a3 in
      let body =
      nests_both us (vs ++ ws) _ _ (many_nest text (IsClause text) clause_tokens clause_nest us cs (all_front _ us (vs ++ (ws ++ z ∷ [])) a2) c)
      (nests_both vs ws _ _ (steps_nest vs xs (all_front _ vs (ws ++ z ∷ []) a3) h) (return_nest ws x (all_front _ ws (z ∷ []) a4) w)) in
      let same : (us ++ (vs ++ ws)) ++ z ∷ [] ≡ inner = append_assoc us (vs ++ ws) (z ∷ []) ∙ ap (λ l. us ++ l) (append_assoc vs ws (z ∷ [])) in
      let braces : Nests tail (brace (flat_map clause_tokens cs ++ (block_tokens (block_of xs) ++ return_tokens x))) =
      subst (λ l. Nests (o ∷ l) (brace (flat_map clause_tokens cs ++ (block_tokens (block_of xs) ++ return_tokens x)))) same
      (nests_braces o z (us ++ (vs ++ ws)) _ b e body) in
      then result (name ∷ (ts ++ tail)) (sort res) _ (result_nest (result ∷ []) res (a.0, tt) k)
      (then name (ts ++ tail) (named n) _ (nests_name text name n a.1.0 i)
      (nests_both ts tail (lines.params ps) _ (params_nest ts ps (all_front _ ts tail a.1.1) p) braces))

  class_nest : (ts : List Token) (x : Class) → AreWritten text ts → IsClass text ts x → Nests ts (class_tokens x)
  class_nest _ _ a (class {keyword = k} {name = name} {begin = o} {end = z} {n = n} {ts = ts} {xs = xs} h i b l e) =
      then k (name ∷ o ∷ (ts ++ z ∷ [])) (key keyword.Class) _ (nests_key keyword.Class k h)
      (then name (o ∷ (ts ++ z ∷ [])) (named n) _ (nests_name text name n a.1.0 i)
      (nests_braces o z ts _ b e (many_nest text (IsMember text) member_tokens member_nest ts xs (all_front _ ts (z ∷ []) a.1.1.1) l)))

  pub spec_nest : (end : Place) (ts : List Token) (x : Spec) → AreWritten text ts → IsSpec text end ts x → Nests ts (flat_map class_tokens x.classes)
  spec_nest end _ _ a (spec {ts = ts} {us = us} {x = x} {xs = xs} h i) =
      nests_both ts us (class_tokens x) _ (class_nest ts x (all_front _ ts us a) h)
      (many_nest text (IsClass text) class_tokens class_nest us xs (all_back _ ts us a) i)
