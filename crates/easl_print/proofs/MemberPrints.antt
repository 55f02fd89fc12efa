-- Members and classes that are printed and read again are the same, places aside.
use Rattle.std.proofs.Common.{◌≡◌, ℕ, List, [], ◌∷◌, ◌++◌, Option, Some, None, map, flat_map, append_assoc, append-nil, refl, sym, ap, ◌∙◌, subst}
use Rattle.std.specs.List.{AllByRecursion}
use Rattle.std.specs.Option.{option_map}
use Rattle.easl_model.specs.{Block, Clause, IsClass, IsClause, IsKey, IsMany, IsMember, IsReturn, IsSpec}
use Rattle.easl_model.specs.{block_of, class, clause, clause_of, constructor, field, method}
use Rattle.easl_model.specs.{spec, with_return, word_of}
use Rattle.easl_model.specs.Grammar.{no_return}
use Rattle.easl_model.specs.declared.place.Place.{Place}
use Rattle.easl_model.specs.declared.token.Key.TheVariants as keyword
use Rattle.easl_model.specs.declared.token.Mark.TheVariants as sign
use Rattle.easl_model.specs.declared.token.Token.{Token}
use Rattle.easl_model.specs.declared.tree.Class.{Class}
use Rattle.easl_model.specs.declared.tree.Code.{Code}
use Rattle.easl_model.specs.declared.tree.Requires.{Requires}
use Rattle.easl_model.specs.declared.tree.Return.{Return}
use Rattle.easl_model.specs.declared.tree.Member.{Member}
use Rattle.easl_model.specs.declared.tree.Member.TheVariants as member
use Rattle.easl_model.specs.declared.tree.Param.{Param}
use Rattle.easl_model.specs.declared.tree.Sort.{Sort}
use Rattle.easl_model.specs.declared.tree.Sort.TheVariants as sorts
use Rattle.easl_model.specs.declared.tree.Spec.{Spec}
use Rattle.easl_model.specs.declared.tree.Value.{Value}
use Rattle.easl_model.specs.declared.tree.Word.{Word}
use Rattle.cv_layout.specs.{AreOf, IsProper, Lexeme, bare_word, key, mark, named, nowhere}
use Rattle.easl_print.specs.Bare.{bare_value, bare_steps, bare_clause, bare_return, bare_sort, bare_param, bare_code, bare_member, bare_class, bare_spec}
use Rattle.easl_print.specs.Bare as plain
use Rattle.easl_print.specs.Lines.{condition, sort, ended}
use Rattle.easl_print.specs.Lines as lines
use Rattle.easl_print.proofs.BodyPrints.{value_print, brace, block_tokens, steps_print}
use Rattle.easl_print.proofs.CondPrints.{bare_cond, condition_print}
use Rattle.easl_print.proofs.TypePrints.{result_print, params_print}
use Rattle.cv_layout.proofs.Enclosed.{enclosed}
use Rattle.cv_layout.proofs.ListPrints.{many_print}
use Rattle.cv_layout.proofs.Printed.{AreWritten, Prints}
use Rattle.cv_layout.proofs.Single.{is_mark, is_key, is_name, mark_proper, key_proper, name_proper, same_word}
use Rattle.cv_layout.proofs.Splits.{all_front, all_back, all_both, split, headed, ending, alone}

-- the tokens of lines
abbrev param_of : Sort → Word → Param
param_of s n = record { place = nowhere; sort = s; name = n }

abbrev code_of : Sort → Word → List Param → List Clause → Block → Option Value → plain.Code
code_of r n ps cs xs v = record { result = r; name = n; params = ps; clauses = cs; body = xs; value = v }

abbrev class_of : Word → List plain.Member → plain.Class
class_of n ms = record { name = n; members = ms }

abbrev pub clause_tokens : Requires → List Lexeme
clause_tokens c = ended (key keyword.Requires ∷ condition (clause_of c.condition))

abbrev pub return_tokens : Option Return → List Lexeme
return_tokens None = []
return_tokens (Some r) = ended (key keyword.Return ∷ lines.value r.value)

abbrev pub body_tokens : Code → List Lexeme
body_tokens c = flat_map clause_tokens c.clauses ++ (block_tokens (block_of c.body) ++ return_tokens c.value)

abbrev pub member_tokens : Member → List Lexeme
member_tokens (member.Field f) = named f.class ∷ named f.name ∷ mark sign.Semicolon ∷ []
member_tokens (member.Constructor c) = named c.name ∷ (lines.params c.params ++ brace (body_tokens c))
member_tokens (member.Method c) = sort c.result ∷ named c.name ∷ (lines.params c.params ++ brace (body_tokens c))

abbrev pub class_tokens : Class → List Lexeme
class_tokens c = key keyword.Class ∷ named c.name ∷ brace (flat_map member_tokens c.members)

module _ (text : List ℕ) where
  clause_print : (ts : List Token) (x : Requires) → AreWritten text ts → IsClause text ts x → Prints IsClause bare_clause (bare_clause x) (clause_tokens x)
  clause_print _ _ a (clause {semicolon = semicolon} {ts = ts} {x = x} k h l) =
      enclosed (key keyword.Requires) sign.Semicolon (IsKey keyword.Requires) (key_proper keyword.Requires refl) refl (λ t o i. is_key t keyword.Requires o i)
      (λ o y. record { place = o.place; condition = y }) bare_clause (λ c. c) (λ o y. refl) (λ t o c ts y i k j. clause i k j)
      (bare_cond x) (condition (clause_of x)) (condition_print text ts x (all_front _ ts (semicolon ∷ []) a.1) h)

  return_print : (ts : List Token) (x : Option Return) → AreWritten text ts → IsReturn text ts x → Prints IsReturn (option_map bare_return)
      (option_map bare_return x) (return_tokens x)
  return_print _ _ a no_return =
      record { proper = tt; again = λ other us m. (None, subst (λ v. IsReturn other v None) (sym (ending other us m)) no_return, refl) }
  return_print _ _ a (with_return {semicolon = semicolon} {ts = ts} {x = x} k h l) =
      enclosed (key keyword.Return) sign.Semicolon (IsKey keyword.Return) (key_proper keyword.Return refl) refl (λ t o i. is_key t keyword.Return o i)
      (λ o y. Some (record { place = o.place; value = y })) (option_map bare_return) Some (λ o y. refl) (λ t o c ts y i k j. with_return i k j)
      (bare_value x) (lines.value x) (value_print text ts x (all_front _ ts (semicolon ∷ []) a.1) h)

  clauses_print : (ts : List Token) (xs : List Requires) → AreWritten text ts → IsMany (IsClause text) ts xs → Prints (λ t. IsMany (IsClause t))
      (map bare_clause) (map bare_clause xs) (flat_map clause_tokens xs)
  clauses_print = many_print IsClause bare_clause clause_tokens text clause_print

  member_print : (ts : List Token) (x : Member) → AreWritten text ts → IsMember text ts x → Prints IsMember bare_member (bare_member x) (member_tokens x)
  member_print _ _ a (field {class = typed} {name = name} {c = c} {n = n} i j k) = record {
    proper = (name_proper text typed c a.0 i, (name_proper text name n a.1.0 j, (mark_proper sign.Semicolon refl, tt)));
    again = λ other us m.
        let y = headed other us (named c) (named n ∷ mark sign.Semicolon ∷ []) m in
        let z = headed other y.1 (named n) (mark sign.Semicolon ∷ []) y.4 in
        let e = headed other z.1 (mark sign.Semicolon) [] z.4 in
        let v = word_of other y.0 in
        let w = word_of other z.0 in
        let made : Member = member.Field (record { class = v; name = w }) in
        let all : us ≡ y.0 ∷ z.0 ∷ e.0 ∷ [] =
        y.2 ∙ ap (λ u. y.0 ∷ u) (z.2 ∙ ap (λ u. z.0 ∷ u) (e.2 ∙ ap (λ u. e.0 ∷ u) (alone other z.1 (mark sign.Semicolon) z.4))) in (
          made,
          subst (λ u. IsMember other u made) (sym all) (field (is_name text other typed y.0 c a.0 i y.3) (is_name text other name z.0 n a.1.0 j z.3)
              (is_mark other sign.Semicolon e.0 e.3)),
          ap (λ u. plain.Field u (bare_word w)) (same_word v c y.3.written) ∙ ap (λ u. plain.Field (bare_word c) u) (same_word w n z.3.written),
        );
  }
  member_print _ _ a (constructor {name = name} {begin = begin} {end = end} {n = n} {ts = ts} {us = us} {ps = ps} {xs = xs} i p b h e) =
      let f = params_print text ts ps (all_front _ ts (begin ∷ (us ++ end ∷ [])) a.1) p in
      let within = (all_back _ ts (begin ∷ (us ++ end ∷ [])) a.1).1 in
      let g = steps_print text us xs (all_front _ us (end ∷ []) within) h in
      let steps = block_tokens (block_of xs) in
      let inner = steps ++ [] in
      let close = mark sign.End ∷ [] in
      record {
        proper = (
          name_proper text name n a.0 i,
          all_both _ (lines.params ps) (brace inner) f.proper
              (mark_proper sign.Begin refl, all_both _ inner close (all_both _ steps [] g.proper tt) (mark_proper sign.End refl, tt)),
        );
        again = λ other us m.
            let y = headed other us (named n) (lines.params ps ++ brace inner) m in
            let s = split other y.1 (lines.params ps) (brace inner) y.4 in
            let o = headed other s.1 (mark sign.Begin) (inner ++ close) s.4 in
            let t = split other o.1 inner close o.4 in
            let z = headed other t.1 (mark sign.End) [] t.4 in
            let q = f.again other s.0 s.3 in
            let r = g.again other t.0 (subst (AreOf other t.0) (append-nil steps) t.3) in
            let v = word_of other y.0 in
            let made : Member =
            member.Constructor
            (record { place = y.0.place; result = sorts.Void; name = v; params = q.0; clauses = []; body = r.0; value = None; end = z.0.place }) in
            let all : us ≡ y.0 ∷ (s.0 ++ (o.0 ∷ (t.0 ++ z.0 ∷ []))) =
            y.2 ∙ ap (λ u. y.0 ∷ u) (s.2 ∙ ap (λ u. s.0 ++ u)
            (o.2 ∙ ap (λ u. o.0 ∷ u) (t.2 ∙ ap (λ u. t.0 ++ u) (z.2 ∙ ap (λ u. z.0 ∷ u) (alone other t.1 (mark sign.End) t.4))))) in (
              made,
              subst (λ u. IsMember other u made) (sym all) (constructor (is_name text other name y.0 n a.0 i y.3) q.1 (is_mark other sign.Begin o.0 o.3) r.1
                  (is_mark other sign.End z.0 z.3)),
              ap (λ u. plain.Constructor (code_of sorts.Void u (map bare_param q.0) [] (bare_steps r.0) None)) (same_word v n y.3.written)
                  ∙ ap (λ u. plain.Constructor (code_of sorts.Void (bare_word n) u [] (bare_steps r.0) None)) q.2
                  ∙ ap (λ u. plain.Constructor (code_of sorts.Void (bare_word n) (map bare_param ps) [] u None)) r.2,
            );
      }
  member_print _ _ a
      (method {result = result} {name = name} {begin = begin} {end = end} {n = n} {ts = ts} {us = us} {vs = vs}
      {ws = ws} {r = res} {ps = ps} {cs = cs} {xs = xs} {x = x} k i p b c h w e) =
      let tail = begin ∷ (us ++ (vs ++ (ws ++ end ∷ []))) in
      let a2 = all_back _ ts tail a.1.1 in
      let a3 = all_back _ us (vs ++ (ws ++ end ∷ [])) a2.1 in
      let a4 = all_back _ vs (ws ++ end ∷ []) a3 in
      let fr = result_print text (result ∷ []) res (a.0, tt) k in
      let fp = params_print text ts ps (all_front _ ts tail a.1.1) p in
      let fc = clauses_print us cs (all_front _ us (vs ++ (ws ++ end ∷ [])) a2.1) c in
      let fs = steps_print text vs xs (all_front _ vs (ws ++ end ∷ []) a3) h in
      let fv = return_print ws x (all_front _ ws (end ∷ []) a4) w in
      let lc = flat_map clause_tokens cs in
      let ls = block_tokens (block_of xs) in
      let lv = return_tokens x in
      let inner = lc ++ (ls ++ lv) in
      let close = mark sign.End ∷ [] in
      record {
        proper = (
          fr.proper.0,
          (
            name_proper text name n a.1.0 i,
            all_both _ (lines.params ps) (brace inner) fp.proper (
              mark_proper sign.Begin refl,
              all_both _ inner close (all_both _ lc (ls ++ lv) fc.proper (all_both _ ls lv fs.proper fv.proper))
                  (mark_proper sign.End refl, tt),
            ),
          ),
        );
        again = λ other us m.
            let d = headed other us (sort res) (named n ∷ (lines.params ps ++ brace inner)) m in
            let y = headed other d.1 (named n) (lines.params ps ++ brace inner) d.4 in
            let s = split other y.1 (lines.params ps) (brace inner) y.4 in
            let o = headed other s.1 (mark sign.Begin) (inner ++ close) s.4 in
            let t = split other o.1 inner close o.4 in
            let t1 = split other t.0 lc (ls ++ lv) t.3 in
            let t2 = split other t1.1 ls lv t1.4 in
            let z = headed other t.1 (mark sign.End) [] t.4 in
            let rr = fr.again other (d.0 ∷ []) (d.3, tt) in
            let rp = fp.again other s.0 s.3 in
            let rc = fc.again other t1.0 t1.3 in
            let rx = fs.again other t2.0 t2.3 in
            let rv = fv.again other t2.1 t2.4 in
            let v = word_of other y.0 in
            let made : Member =
            member.Method
            (record { place = d.0.place; result = rr.0; name = v; params = rp.0; clauses = rc.0; body = rx.0; value = rv.0; end = z.0.place }) in
            let inside : t.0 ++ z.0 ∷ [] ≡ t1.0 ++ (t2.0 ++ (t2.1 ++ z.0 ∷ [])) =
            ap (λ u. u ++ z.0 ∷ []) (t1.2 ∙ ap (λ u. t1.0 ++ u) t2.2) ∙ append_assoc t1.0 (t2.0 ++ t2.1) (z.0 ∷ []) ∙ ap (λ u. t1.0 ++ u)
            (append_assoc t2.0 t2.1 (z.0 ∷ [])) in
            let behind : o.1 ≡ t1.0 ++ (t2.0 ++ (t2.1 ++ z.0 ∷ [])) =
            t.2 ∙ ap (λ u. t.0 ++ u) (z.2 ∙ ap (λ u. z.0 ∷ u) (alone other t.1 (mark sign.End) t.4)) ∙ inside in
            let all : us ≡ d.0 ∷ (y.0 ∷ (s.0 ++ (o.0 ∷ (t1.0 ++ (t2.0 ++ (t2.1 ++ z.0 ∷ [])))))) =
            d.2 ∙ ap (λ u. d.0 ∷ u) (y.2 ∙ ap (λ u. y.0 ∷ u) (s.2 ∙ ap (λ u. s.0 ++ u) (o.2 ∙ ap (λ u. o.0 ∷ u) behind))) in (
              made,
              subst (λ u. IsMember other u made) (sym all) (method rr.1 (is_name text other name y.0 n a.1.0 i y.3) rp.1
                  (is_mark other sign.Begin o.0 o.3) rc.1 rx.1 rv.1 (is_mark other sign.End z.0 z.3)),
              ap (λ u. plain.Method (code_of u (bare_word v) (map bare_param rp.0) (map bare_clause rc.0) (bare_steps rx.0)
                  (option_map bare_return rv.0))) rr.2
                  ∙ ap (λ u. plain.Method (code_of (bare_sort res) u (map bare_param rp.0) (map bare_clause rc.0) (bare_steps rx.0)
                  (option_map bare_return rv.0))) (same_word v n y.3.written)
                  ∙ ap (λ u. plain.Method (code_of (bare_sort res) (bare_word n) u (map bare_clause rc.0) (bare_steps rx.0)
                  (option_map bare_return rv.0))) rp.2
                  ∙ ap (λ u. plain.Method (code_of (bare_sort res) (bare_word n) (map bare_param ps) u (bare_steps rx.0) (option_map bare_return rv.0))) rc.2
                  ∙ ap (λ u. plain.Method (code_of (bare_sort res) (bare_word n) (map bare_param ps) (map bare_clause cs) u
                  (option_map bare_return rv.0))) rx.2
                  ∙ ap (λ u. plain.Method (code_of (bare_sort res) (bare_word n) (map bare_param ps) (map bare_clause cs) (bare_steps xs) u)) rv.2,
            );
      }

  pub class_print : (ts : List Token) (x : Class) → AreWritten text ts → IsClass text ts x → Prints IsClass bare_class (bare_class x) (class_tokens x)
  class_print _ _ a (class {name = name} {begin = begin} {end = end} {n = n} {ts = ts} {xs = xs} k i b h e) =
      let f = many_print IsMember bare_member member_tokens text member_print ts xs (all_front _ ts (end ∷ []) a.1.1.1) h in
      let inner = flat_map member_tokens xs in
      let close = mark sign.End ∷ [] in
      record {
        proper = (
          key_proper keyword.Class refl,
          (
            name_proper text name n a.1.0 i,
            (mark_proper sign.Begin refl, all_both _ inner close f.proper (mark_proper sign.End refl, tt)),
          ),
        );
        again = λ other us m.
            let d = headed other us (key keyword.Class) (named n ∷ brace inner) m in
            let y = headed other d.1 (named n) (brace inner) d.4 in
            let o = headed other y.1 (mark sign.Begin) (inner ++ close) y.4 in
            let s = split other o.1 inner close o.4 in
            let z = headed other s.1 (mark sign.End) [] s.4 in
            let r = f.again other s.0 s.3 in
            let v = word_of other y.0 in
            let made : Class = record { place = d.0.place; name = v; members = r.0 } in
            let all : us ≡ d.0 ∷ y.0 ∷ o.0 ∷ (s.0 ++ z.0 ∷ []) =
            d.2 ∙ ap (λ u. d.0 ∷ u) (y.2 ∙ ap (λ u. y.0 ∷ u)
            (o.2 ∙ ap (λ u. o.0 ∷ u) (s.2 ∙ ap (λ u. s.0 ++ u) (z.2 ∙ ap (λ u. z.0 ∷ u) (alone other s.1 (mark sign.End) s.4))))) in (
              made,
              subst (λ u. IsClass other u made) (sym all) (class (is_key other keyword.Class d.0 d.3) (is_name text other name y.0 n a.1.0 i y.3)
                  (is_mark other sign.Begin o.0 o.3) r.1 (is_mark other sign.End z.0 z.3)),
              ap (λ u. class_of u (map bare_member r.0)) (same_word v n y.3.written) ∙ ap (class_of (bare_word n)) r.2,
            );
      }

  -- the tokens of a specification spell it where the text ends anywhere
  pub spec_proper : (end : Place) (ts : List Token) (x : Spec) → AreWritten text ts → IsSpec text end ts x → AllByRecursion IsProper
      (flat_map class_tokens x.classes)
  spec_proper end _ _ a (spec {ts = ts} {us = us} {x = x} {xs = xs} h i) =
      all_both _ (class_tokens x) (flat_map class_tokens xs) (class_print ts x (all_front _ ts us a) h).proper
      (many_print IsClass bare_class class_tokens text class_print us xs (all_back _ ts us a) i).proper

  pub spec_again : (end : Place) (ts : List Token) (x : Spec) → AreWritten text ts → IsSpec text end ts x → (other : List ℕ) (last : Place) (us : List Token)
      → AreOf other us (flat_map class_tokens x.classes) → (y : Spec) × IsSpec other last us y × (bare_spec y ≡ bare_spec x)
  spec_again end _ _ a (spec {ts = ts} {us = us} {x = x} {xs = xs} h i) other last vs m =
      let s = split other vs (class_tokens x) (flat_map class_tokens xs) m in
      let q = (class_print ts x (all_front _ ts us a) h).again other s.0 s.3 in
      let r = (many_print IsClass bare_class class_tokens text class_print us xs (all_back _ ts us a) i).again other s.1 s.4 in
      let made : Spec = record { classes = q.0 ∷ r.0; end = last } in
      (made, subst (λ u. IsSpec other last u made) (sym s.2) (spec q.1 r.1), ap (λ u. u ∷ map bare_class r.0) q.2 ∙ ap (λ us. bare_class x ∷ us) r.2)
