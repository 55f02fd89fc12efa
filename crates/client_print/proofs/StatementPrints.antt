-- Statements that are printed and read again are the same, places aside.
use Rattle.std.proofs.Common.{◌≡◌, ℕ, true, false, List, [], ◌∷◌, ◌++◌, Option, Some, None, append-nil, refl, sym, ap, ◌∙◌, subst}
use Rattle.std.specs.Str.{all_scalars}
use Rattle.client_model.proofs.PlainStatements.{plain_declare, plain_assign, plain_do, plain_if, plain_while, plain_break, plain_continue, plain_return}
use Rattle.client_model.specs.Grammar.{IsAction, IsGuard, IsSet, IsStmt, declare, declare_set, assign, act, if_alone, if_else, while, break, continue, return}
use Rattle.client_model.specs.Grammar.{IsBlock, block, IsStmts, no_stmts, next_stmt, IsReturn, bare_return, with_return}
use Rattle.client_model.specs.Statements.{Statement, Statements, Declare, Assign, Do, If, While, Break, Continue, Return, none, statement_of, ◌▸◌}
use Rattle.client_model.specs.declared.tree.Return.{Return as Returned}
use Rattle.client_model.specs.declared.tree.Rhs.{Rhs}
use Rattle.client_model.specs.declared.tree.Stmt.{Stmt}
use Rattle.client_model.specs.declared.tree.Stmt.TheVariants as stmt
use Rattle.client_model.specs.declared.tree.Test.{Test}
use Rattle.easl_model.specs.Grammar.{IsType}
use Rattle.easl_model.specs.Lexemes.{word_of, IsKey, IsMark, IsName}
use Rattle.easl_model.specs.Tokens.{key_text}
use Rattle.easl_model.specs.declared.place.Place.{Place}
use Rattle.easl_model.specs.declared.token.Key.{Key}
use Rattle.easl_model.specs.declared.token.Key.TheVariants as keyword
use Rattle.easl_model.specs.declared.token.Mark.TheVariants as sign
use Rattle.easl_model.specs.declared.token.Token.{Token}
use Rattle.easl_model.specs.declared.tree.Sort.{Sort}
use Rattle.easl_model.specs.declared.tree.Word.{Word}
use Rattle.cv_layout.specs.Layout.{Lexeme, key, mark, parens}
use Rattle.cv_layout.specs.Tokens.{AreOf}
use Rattle.cv_layout.specs.Words.{named, nowhere, bare_word}
use Rattle.cv_layout.proofs.Enclosed.{enclosed}
use Rattle.cv_layout.proofs.Printed.{AreWritten, Prints}
use Rattle.cv_layout.proofs.Single.{is_mark, is_key, is_name, mark_proper, key_proper, name_proper, same_word}
use Rattle.cv_layout.proofs.Splits.{all_front, all_back, all_both, split, headed, ending}
use Rattle.easl_print.proofs.BodyPrints.{brace, else_tokens}
use Rattle.easl_print.specs.Bare.{bare_sort}
use Rattle.easl_print.specs.Lines.{sort, ended}
use Rattle.client_print.specs.Bare.{bare_value, bare_test, bare, bare_all, bare_block}
use Rattle.client_print.specs.Bare as plain
use Rattle.client_print.specs.Lines.{block_of}
use Rattle.client_print.specs.Lines as lines
use Rattle.easl_print.proofs.TypePrints.{type_print}
use Rattle.client_print.proofs.ValuePrints.{action_print, arg_print, guard_print, set_print}

-- the tokens of statements
abbrev mutual
  pub statement_tokens : Statement → List Lexeme
  statement_tokens (Declare place s n v) = sort s ∷ named n ∷ lines.maybe_set v
  statement_tokens (Assign n v) = named n ∷ lines.set v
  statement_tokens (Do v) = ended (lines.value v)
  statement_tokens (If place t first second has_else) =
      key keyword.If ∷ (parens (lines.test t) ++ (brace (block_tokens first) ++ else_tokens has_else (block_tokens second)))
  statement_tokens (While place t inner) = key keyword.While ∷ (parens (lines.test t) ++ brace (block_tokens inner))
  statement_tokens (Break place) = key keyword.Break ∷ mark sign.Semicolon ∷ []
  statement_tokens (Continue place) = key keyword.Continue ∷ mark sign.Semicolon ∷ []
  statement_tokens (Return r) = lines.returning r

  pub block_tokens : Statements → List Lexeme
  block_tokens none = []
  block_tokens (x ▸ xs) = statement_tokens x ++ block_tokens xs

abbrev pub bare_stmt : Stmt → Statement
bare_stmt x = bare (statement_of x)

abbrev pub StatementPrints : Statement → Type 0
StatementPrints w = Prints IsStmt bare_stmt (bare w) (statement_tokens w)

abbrev BlockPrints : Statements → Type 0
BlockPrints xs = Prints IsBlock bare_block (bare_all xs) (brace (block_tokens xs))

-- a keyword and a semicolon, of which a tree is made with the keyword's place
keyword_print : {C D : Type 0} {T : List ℕ → List Token → C → Type 0} {aside : C → D} (k : Key) → all_scalars (key_text k) ≡ true
    → (make : Place → C) (b : D) → ((at : Place) → aside (make at) ≡ b)
    → ((other : List ℕ) (t e : Token) → IsKey k t → IsMark sign.Semicolon e → T other (t ∷ e ∷ []) (make t.place))
    → Prints T aside b (key k ∷ mark sign.Semicolon ∷ [])
keyword_print {T = T} k scalars make b same rule = record {
  proper = (key_proper k scalars, (mark_proper sign.Semicolon refl, tt));
  again = λ other us m.
      let x = headed other us (key k) (mark sign.Semicolon ∷ []) m in
      let e = headed other x.1 (mark sign.Semicolon) [] x.4 in
      let all : us ≡ x.0 ∷ e.0 ∷ [] = x.2 ∙ ap (λ u. x.0 ∷ u) (e.2 ∙ ap (λ u. e.0 ∷ u) (ending other e.1 e.4)) in (
        make x.0.place,
        subst (λ u. T other u (make x.0.place)) (sym all) (rule other x.0 e.0 (is_key other k x.0 x.3) (is_mark other sign.Semicolon e.0 e.3)),
        same x.0.place,
      );
}

break_print : (at : Place) → StatementPrints (Break at)
break_print at = keyword_print keyword.Break refl stmt.Break (Break nowhere) (λ place. ap bare (plain_break place)) (λ other t e i j. break i j)

continue_print : (at : Place) → StatementPrints (Continue at)
continue_print at = keyword_print keyword.Continue refl stmt.Continue (Continue nowhere) (λ place. ap bare (plain_continue place)) (λ other t e i j. continue i j)

abbrev returned_of : Option Word → Returned
returned_of v = record { place = nowhere; value = v }

return_print : (text : List ℕ) (ts : List Token) (r : Returned) → AreWritten text ts → IsReturn text ts r
    → Prints IsReturn plain.bare_return (plain.bare_return r) (lines.returning r)
return_print text _ _ a (bare_return i j) =
    keyword_print keyword.Return refl (λ place. record { place = place; value = None }) (returned_of None) (λ place. refl) (λ other t e i j. bare_return i j)
return_print text _ _ a (with_return {semicolon = semicolon} {ts = ts} {w = w} i h j) =
    enclosed (key keyword.Return) sign.Semicolon (IsKey keyword.Return) (key_proper keyword.Return refl) refl (λ t o i. is_key t keyword.Return o i)
    (λ o y. record { place = o.place; value = Some y }) plain.bare_return (λ y. returned_of (Some y)) (λ o y. refl) (λ t o c ts y i k j. with_return i k j)
    (bare_word w) (lines.argument w) (arg_print text ts w (all_front _ ts (semicolon ∷ []) a.1) h)

leaving_print : (r : Returned) → Prints IsReturn plain.bare_return (plain.bare_return r) (lines.returning r) → StatementPrints (Return r)
leaving_print r f = record {
  proper = f.proper;
  again = λ other us m. let q = f.again other us m in (stmt.Return q.0, return q.1, ap bare (plain_return q.0) ∙ ap Return q.2);
}

module _ (text : List ℕ) where
  declare_print : (t name semicolon : Token) (s : Sort) (n : Word) → AreWritten text (t ∷ name ∷ semicolon ∷ []) → IsType text (t ∷ []) s → IsName text name n
      → StatementPrints (Declare t.place s n None)
  declare_print t name semicolon s n a i j =
      let f = type_print text (t ∷ []) s (a.0, tt) i in
      record {
        proper = (f.proper.0, (name_proper text name n a.1.0 j, (mark_proper sign.Semicolon refl, tt)));
        again = λ other us m.
            let x = headed other us (sort s) (named n ∷ mark sign.Semicolon ∷ []) m in
            let y = headed other x.1 (named n) (mark sign.Semicolon ∷ []) x.4 in
            let e = headed other y.1 (mark sign.Semicolon) [] y.4 in
            let r = f.again other (x.0 ∷ []) (x.3, tt) in
            let w = word_of other y.0 in
            let made : Stmt = stmt.Declare x.0.place r.0 w None in
            let all : us ≡ x.0 ∷ y.0 ∷ e.0 ∷ [] = x.2 ∙ ap (λ u. x.0 ∷ u) (y.2 ∙ ap (λ u. y.0 ∷ u) (e.2 ∙ ap (λ u. e.0 ∷ u) (ending other e.1 e.4))) in (
              made,
              subst (λ u. IsStmt other u made) (sym all) (declare r.1 (is_name text other name y.0 n a.1.0 j y.3) (is_mark other sign.Semicolon e.0 e.3)),
              ap bare (plain_declare x.0.place r.0 w None) ∙ ap (λ u. Declare nowhere u (bare_word w) None) r.2
                  ∙ ap (λ u. Declare nowhere (bare_sort s) u None) (same_word w n y.3.written),
            );
      }

  declare_set_print : (t name : Token) (ts : List Token) (s : Sort) (n : Word) (v : Rhs) → AreWritten text (t ∷ name ∷ ts) → IsType text (t ∷ []) s
      → IsName text name n
      → IsSet text ts v → StatementPrints (Declare t.place s n (Some v))
  declare_set_print t name ts s n v a i j h =
      let f = type_print text (t ∷ []) s (a.0, tt) i in
      let g = set_print text ts v a.1.1 h in
      record {
        proper = (f.proper.0, (name_proper text name n a.1.0 j, g.proper));
        again = λ other us m.
            let x = headed other us (sort s) (named n ∷ lines.set v) m in
            let y = headed other x.1 (named n) (lines.set v) x.4 in
            let r = f.again other (x.0 ∷ []) (x.3, tt) in
            let q = g.again other y.1 y.4 in
            let w = word_of other y.0 in
            let made : Stmt = stmt.Declare x.0.place r.0 w (Some q.0) in (
              made,
              subst (λ u. IsStmt other u made) (sym (x.2 ∙ ap (λ u. x.0 ∷ u) y.2)) (declare_set r.1 (is_name text other name y.0 n a.1.0 j y.3) q.1),
              ap bare (plain_declare x.0.place r.0 w (Some q.0)) ∙ ap (λ u. Declare nowhere u (bare_word w) (Some (bare_value q.0))) r.2
                  ∙ ap (λ u. Declare nowhere (bare_sort s) u (Some (bare_value q.0))) (same_word w n y.3.written)
                  ∙ ap (λ u. Declare nowhere (bare_sort s) (bare_word n) (Some u)) q.2,
            );
      }

  assign_print : (name : Token) (ts : List Token) (n : Word) (v : Rhs) → AreWritten text (name ∷ ts) → IsName text name n → IsSet text ts v
      → StatementPrints (Assign n v)
  assign_print name ts n v a j h =
      let g = set_print text ts v a.1 h in
      record {
        proper = (name_proper text name n a.0 j, g.proper);
        again = λ other us m.
            let y = headed other us (named n) (lines.set v) m in
            let q = g.again other y.1 y.4 in
            let w = word_of other y.0 in
            let made : Stmt = stmt.Assign w q.0 in (
              made,
              subst (λ u. IsStmt other u made) (sym y.2) (assign (is_name text other name y.0 n a.0 j y.3) q.1),
              ap bare (plain_assign w q.0) ∙ ap (λ u. Assign u (bare_value q.0)) (same_word w n y.3.written) ∙ ap (λ u. Assign (bare_word n) u) q.2,
            );
      }

  act_print : (ts : List Token) (semicolon : Token) (v : Rhs) → AreWritten text (ts ++ semicolon ∷ []) → IsAction text ts v → StatementPrints (Do v)
  act_print ts semicolon v a h =
      let g = action_print text ts v (all_front _ ts (semicolon ∷ []) a) h in
      let last = mark sign.Semicolon ∷ [] in
      record {
        proper = all_both _ (lines.value v) last g.proper (mark_proper sign.Semicolon refl, tt);
        again = λ other us m.
            let s = split other us (lines.value v) last m in
            let e = headed other s.1 (mark sign.Semicolon) [] s.4 in
            let q = g.again other s.0 s.3 in
            let made : Stmt = stmt.Do q.0 in
            let all : us ≡ s.0 ++ e.0 ∷ [] = s.2 ∙ ap (λ u. s.0 ++ u) (e.2 ∙ ap (λ u. e.0 ∷ u) (ending other e.1 e.4)) in
            (made, subst (λ u. IsStmt other u made) (sym all) (act q.1 (is_mark other sign.Semicolon e.0 e.3)), ap bare (plain_do q.0) ∙ ap Do q.2);
      }

-- statements that hold blocks, of parts that are printed
if_print : (place : Place) (t : Test) (xs : Statements) → Prints IsGuard bare_test (bare_test t) (parens (lines.test t)) → BlockPrints xs
    → StatementPrints (If place t xs none false)
if_print place t xs f g =
    let one = brace (block_tokens xs) in
    record {
      proper = (key_proper keyword.If refl, all_both _ (parens (lines.test t)) (one ++ []) f.proper (all_both _ one [] g.proper tt));
      again = λ other us m.
          let k = headed other us (key keyword.If) (parens (lines.test t) ++ (one ++ [])) m in
          let s = split other k.1 (parens (lines.test t)) (one ++ []) k.4 in
          let q = f.again other s.0 s.3 in
          let r = g.again other s.1 (subst (AreOf other s.1) (append-nil one) s.4) in
          let made : Stmt = stmt.If k.0.place q.0 r.0 [] false in (
            made,
            subst (λ u. IsStmt other u made) (sym (k.2 ∙ ap (λ u. k.0 ∷ u) s.2)) (if_alone (is_key other keyword.If k.0 k.3) q.1 r.1),
            ap bare (plain_if k.0.place q.0 r.0 [] false) ∙ ap (λ u. If nowhere u (bare_block r.0) none false) q.2
                ∙ ap (λ u. If nowhere (bare_test t) u none false) r.2,
          );
    }

else_print : (place : Place) (t : Test) (xs ys : Statements) → Prints IsGuard bare_test (bare_test t) (parens (lines.test t)) → BlockPrints xs → BlockPrints ys
    → StatementPrints (If place t xs ys true)
else_print place t xs ys f g h =
    let one = brace (block_tokens xs) in
    let other_one = key keyword.Else ∷ brace (block_tokens ys) in
    record {
      proper = (
        key_proper keyword.If refl,
        all_both _ (parens (lines.test t)) (one ++ other_one) f.proper (all_both _ one other_one g.proper (key_proper keyword.Else refl, h.proper)),
      );
      again = λ other us m.
          let k = headed other us (key keyword.If) (parens (lines.test t) ++ (one ++ other_one)) m in
          let s = split other k.1 (parens (lines.test t)) (one ++ other_one) k.4 in
          let b = split other s.1 one other_one s.4 in
          let l = headed other b.1 (key keyword.Else) (brace (block_tokens ys)) b.4 in
          let q = f.again other s.0 s.3 in
          let r = g.again other b.0 b.3 in
          let v = h.again other l.1 l.4 in
          let made : Stmt = stmt.If k.0.place q.0 r.0 v.0 true in
          let all : us ≡ k.0 ∷ (s.0 ++ (b.0 ++ l.0 ∷ l.1)) = k.2 ∙ ap (λ u. k.0 ∷ u) (s.2 ∙ ap (λ u. s.0 ++ u) (b.2 ∙ ap (λ u. b.0 ++ u) l.2)) in (
            made,
            subst (λ u. IsStmt other u made) (sym all) (if_else (is_key other keyword.If k.0 k.3) q.1 r.1 (is_key other keyword.Else l.0 l.3) v.1),
            ap bare (plain_if k.0.place q.0 r.0 v.0 true) ∙ ap (λ u. If nowhere u (bare_block r.0) (bare_block v.0) true) q.2
                ∙ ap (λ u. If nowhere (bare_test t) u (bare_block v.0) true) r.2 ∙ ap (λ u. If nowhere (bare_test t) (bare_all xs) u true) v.2,
          );
    }

while_print : (place : Place) (t : Test) (xs : Statements) → Prints IsGuard bare_test (bare_test t) (parens (lines.test t)) → BlockPrints xs
    → StatementPrints (While place t xs)
while_print place t xs f g =
    let one = brace (block_tokens xs) in
    record {
      proper = (key_proper keyword.While refl, all_both _ (parens (lines.test t)) one f.proper g.proper);
      again = λ other us m.
          let k = headed other us (key keyword.While) (parens (lines.test t) ++ one) m in
          let s = split other k.1 (parens (lines.test t)) one k.4 in
          let q = f.again other s.0 s.3 in
          let r = g.again other s.1 s.4 in
          let made : Stmt = stmt.While k.0.place q.0 r.0 in (
            made,
            subst (λ u. IsStmt other u made) (sym (k.2 ∙ ap (λ u. k.0 ∷ u) s.2)) (while (is_key other keyword.While k.0 k.3) q.1 r.1),
            ap bare (plain_while k.0.place q.0 r.0) ∙ ap (λ u. While nowhere u (bare_block r.0)) q.2 ∙ ap (λ u. While nowhere (bare_test t) u) r.2,
          );
    }

module _ (text : List ℕ) where
  mutual
    statement_print : (ts : List Token) (x : Stmt) → AreWritten text ts → IsStmt text ts x → StatementPrints (statement_of x)
    statement_print _ _ a (declare {t = t} {name = name} {semicolon = e} {n = n} {s = s} i j k) =
        subst StatementPrints (sym (plain_declare t.place s n None)) (declare_print text t name e s n a i j)
    statement_print _ _ a (declare_set {t = t} {name = name} {n = n} {ts = ts} {s = s} {x = v} i j h) =
        subst StatementPrints (sym (plain_declare t.place s n (Some v))) (declare_set_print text t name ts s n v a i j h)
    statement_print _ _ a (assign {name = name} {n = n} {ts = ts} {x = v} j h) = subst StatementPrints (sym (plain_assign n v))
        (assign_print text name ts n v a j h)
    statement_print _ _ a (act {semicolon = e} {ts = ts} {x = v} h k) = subst StatementPrints (sym (plain_do v)) (act_print text ts e v a h)
    statement_print _ _ a (if_alone {keyword = k} {ts = ts} {us = us} {t = t} {xs = xs} i g b) =
        subst StatementPrints (sym (plain_if k.place t xs [] false))
        (if_print k.place t (block_of xs) (guard_print text ts t (all_front _ ts us a.1) g) (block_print us xs (all_back _ ts us a.1) b))
    statement_print _ _ a (if_else {keyword = k} {other = o} {ts = ts} {us = us} {vs = vs} {t = t} {xs = xs} {ys = ys} i g b j d) =
        let behind = all_back _ ts (us ++ o ∷ vs) a.1 in
        subst StatementPrints (sym (plain_if k.place t xs ys true))
        (else_print k.place t (block_of xs) (block_of ys) (guard_print text ts t (all_front _ ts (us ++ o ∷ vs) a.1) g)
        (block_print us xs (all_front _ us (o ∷ vs) behind) b) (block_print vs ys (all_back _ us (o ∷ vs) behind).1 d))
    statement_print _ _ a (while {keyword = k} {ts = ts} {us = us} {t = t} {xs = xs} i g b) =
        subst StatementPrints (sym (plain_while k.place t xs))
        (while_print k.place t (block_of xs) (guard_print text ts t (all_front _ ts us a.1) g) (block_print us xs (all_back _ ts us a.1) b))
    statement_print _ _ a (break {keyword = k} i j) = subst StatementPrints (sym (plain_break k.place)) (break_print k.place)
    statement_print _ _ a (continue {keyword = k} i j) = subst StatementPrints (sym (plain_continue k.place)) (continue_print k.place)
    statement_print _ _ a (return {ts = ts} {x = r} h) = subst StatementPrints (sym (plain_return r)) (leaving_print r (return_print text ts r a h))

    block_print : (ts : List Token) (xs : List Stmt) → AreWritten text ts → IsBlock text ts xs → BlockPrints (block_of xs)
    block_print _ xs a (block {end = end} {ts = ts} k h l) =
        enclosed (mark sign.Begin) sign.End (IsMark sign.Begin) (mark_proper sign.Begin refl) refl (λ t o i. is_mark t sign.Begin o i)
        (λ o y. y) bare_block (λ c. c) (λ o y. refl) (λ t o c ts y i k j. block i k j) (bare_block xs) (block_tokens (block_of xs))
        (statements_print ts xs (all_front _ ts (end ∷ []) a.1) h)

    pub statements_print : (ts : List Token) (xs : List Stmt) → AreWritten text ts → IsStmts text ts xs
        → Prints IsStmts bare_block (bare_block xs) (block_tokens (block_of xs))
    statements_print _ _ a no_stmts =
        record { proper = tt; again = λ other us m. ([], subst (λ v. IsStmts other v []) (sym (ending other us m)) no_stmts, refl) }
    statements_print _ _ a (next_stmt {ts = ts} {us = us} {x = x} {xs = xs} h hs) =
        let one = statement_print ts x (all_front _ ts us a) h in
        let rest = statements_print us xs (all_back _ ts us a) hs in
        let first = statement_tokens (statement_of x) in
        let more = block_tokens (block_of xs) in
        record {
          proper = all_both _ first more one.proper rest.proper;
          again = λ other us m.
              let s = split other us first more m in
              let r = one.again other s.0 s.3 in
              let q = rest.again other s.1 s.4 in (
                r.0 ∷ q.0,
                subst (λ v. IsStmts other v (r.0 ∷ q.0)) (sym s.2) (next_stmt r.1 q.1),
                ap (λ y. y ▸ bare_block q.0) r.2
                    ∙ ap (λ ys. bare_stmt x ▸ ys) q.2,
              );
        }
