-- Each rule prints what nests no deeper than the tokens that it read.
use Rattle.std.proofs.Common.{ℕ, Bool, true, false, List, [], ◌∷◌, ◌++◌, Some, None, append-nil, refl, sym, subst}
use Rattle.client_model.proofs.PlainStatements.{plain_declare, plain_assign, plain_do, plain_if, plain_while, plain_break, plain_continue, plain_return}
use Rattle.client_model.specs.Grammar.{IsArg, name_arg, literal_arg, IsArgs, args, IsNew, new, IsComponent, component, IsCall, call, IsInitial, copy_initial}
use Rattle.client_model.specs.Grammar.{new_initial, component_initial, IsRhs, initial_rhs, call_rhs, IsAction, component_action, call_action, new_action}
use Rattle.client_model.specs.Grammar.{IsTest, free_test, call_test, IsGuard, guard, IsSet, set, IsStmt, declare, declare_set, assign, act, if_alone, if_else}
use Rattle.client_model.specs.Grammar.{while, break, continue, return, IsBlock, block, IsStmts, no_stmts, next_stmt, IsReturn, bare_return, with_return}
use Rattle.client_model.specs.Grammar.{IsStatic, static, IsProc, procedure, IsItems, no_items, next_static, next_procedure, IsClient, client}
use Rattle.client_model.specs.Statements.{Statement, statement_of}
use Rattle.client_model.specs.declared.tree.Call.{Call}
use Rattle.client_model.specs.declared.tree.Client.{Client}
use Rattle.client_model.specs.declared.tree.Component.{Component}
use Rattle.client_model.specs.declared.tree.New.{New}
use Rattle.client_model.specs.declared.tree.Proc.{Proc}
use Rattle.client_model.specs.declared.tree.Return.{Return}
use Rattle.client_model.specs.declared.tree.Rhs.{Rhs}
use Rattle.client_model.specs.declared.tree.Static.{Static}
use Rattle.client_model.specs.declared.tree.Stmt.{Stmt}
use Rattle.client_model.specs.declared.tree.Test.{Test}
use Rattle.easl_model.specs.Grammar.{opaque_key, IsType, opaque_type, class_type, IsResult, no_result, some_result, IsParam, param, IsParams, params}
use Rattle.easl_model.specs.declared.place.Place.{Place}
use Rattle.easl_model.specs.declared.token.Key.TheVariants as keyword
use Rattle.easl_model.specs.declared.token.Mark.TheVariants as sign
use Rattle.easl_model.specs.declared.token.Token.{Token}
use Rattle.easl_model.specs.declared.tree.Param.{Param}
use Rattle.easl_model.specs.declared.tree.Sort.{Sort}
use Rattle.easl_model.specs.declared.tree.Word.{Word}
use Rattle.cv_layout.specs.Layout.{key, mark, parens}
use Rattle.cv_layout.specs.Words.{named}
use Rattle.cv_layout.proofs.ListNests.{then, listed_nest, literal_nest}
use Rattle.cv_layout.proofs.Nesting.{Nests, nests_nothing, nests_both, nests_key, nests_mark, nests_name, nests_parens, nests_braces}
use Rattle.cv_layout.proofs.Printed.{AreWritten}
use Rattle.cv_layout.proofs.Splits.{all_front, all_back}
use Rattle.easl_print.proofs.BodyPrints.{brace}
use Rattle.easl_print.specs.Lines.{sort}
use Rattle.easl_print.specs.Lines as shared
use Rattle.client_print.specs.Lines.{block_of}
use Rattle.client_print.specs.Lines as lines
use Rattle.client_print.proofs.ItemPrints.{static_tokens, procedure_tokens, item_tokens}
use Rattle.client_print.proofs.StatementPrints.{statement_tokens, block_tokens}

abbrev StatementNests : List Token → Statement → Type 0
StatementNests ts w = Nests ts (statement_tokens w)

module _ (text : List ℕ) where
  arg_nest : (ts : List Token) (w : Word) → AreWritten text ts → IsArg text ts w → Nests ts (lines.argument w)
  arg_nest _ w a (name_arg {t = t} n) = nests_name text t w a.0 n
  arg_nest _ w a (literal_arg {t = t} l) = literal_nest text t w a.0 l

  args_nest : (ts : List Token) (ws : List Word) → AreWritten text ts → IsArgs text ts ws → Nests ts (lines.args ws)
  args_nest _ ws a (args {opening = o} {closing = z} {ts = ts} h l e) =
      nests_parens o z ts _ h e (listed_nest text (IsArg text) lines.argument arg_nest ts ws (all_front _ ts (z ∷ []) a.1) l)

  new_nest : (ts : List Token) (x : New) → AreWritten text ts → IsNew text ts x → Nests ts (lines.construction x)
  new_nest _ _ a (new {keyword = k} {class = typed} {c = c} {ts = ts} {ws = ws} h n l) =
      then k (typed ∷ ts) (key keyword.New) _ (nests_key keyword.New k h)
      (then typed ts (named c) _ (nests_name text typed c a.1.0 n) (args_nest ts ws a.1.1 l))

  component_nest : (ts : List Token) (x : Component) → AreWritten text ts → IsComponent text ts x → Nests ts (lines.component x)
  component_nest _ _ a (component {receiver = t} {dot = d} {method = u} {r = r} {m = m} {ts = ts} {ws = ws} i k j l) =
      then t (d ∷ u ∷ ts) (named r) _ (nests_name text t r a.0 i)
      (then d (u ∷ ts) (mark sign.Dot) _ (nests_mark sign.Dot d k (λ b. refl))
      (then u ts (named m) _ (nests_name text u m a.1.1.0 j) (args_nest ts ws a.1.1.1 l)))

  call_nest : (ts : List Token) (x : Call) → AreWritten text ts → IsCall text ts x → Nests ts (lines.call x)
  call_nest _ _ a (call {procedure = t} {p = p} {ts = ts} {ws = ws} i l) = then t ts (named p) _ (nests_name text t p a.0 i) (args_nest ts ws a.1 l)

  initial_nest : (ts : List Token) (x : Rhs) → AreWritten text ts → IsInitial text ts x → Nests ts (lines.value x)
  initial_nest ts _ a (copy_initial {w = w} h) = arg_nest ts w a h
  initial_nest ts _ a (new_initial {x = x} h) = new_nest ts x a h
  initial_nest ts _ a (component_initial {x = x} h) = component_nest ts x a h

  rhs_nest : (ts : List Token) (x : Rhs) → AreWritten text ts → IsRhs text ts x → Nests ts (lines.value x)
  rhs_nest ts x a (initial_rhs h) = initial_nest ts x a h
  rhs_nest ts _ a (call_rhs {x = x} h) = call_nest ts x a h

  action_nest : (ts : List Token) (x : Rhs) → AreWritten text ts → IsAction text ts x → Nests ts (lines.value x)
  action_nest ts _ a (component_action {x = x} h) = component_nest ts x a h
  action_nest ts _ a (call_action {x = x} h) = call_nest ts x a h
  action_nest ts _ a (new_action {x = x} h) = new_nest ts x a h

  test_nest : (ts : List Token) (x : Test) → AreWritten text ts → IsTest text ts x → Nests ts (lines.test x)
  test_nest _ _ a (free_test {t = t} k) = nests_mark sign.Choice t k (λ b. refl)
  test_nest ts _ a (call_test {x = x} h) = component_nest ts x a h

  guard_nest : (ts : List Token) (x : Test) → AreWritten text ts → IsGuard text ts x → Nests ts (parens (lines.test x))
  guard_nest _ x a (guard {opening = o} {closing = z} {ts = ts} k h l) = nests_parens o z ts _ k l (test_nest ts x (all_front _ ts (z ∷ []) a.1) h)

  set_nest : (ts : List Token) (x : Rhs) → AreWritten text ts → IsSet text ts x → Nests ts (lines.set x)
  set_nest _ x a (set {assign = s} {semicolon = e} {ts = ts} k h l) =
      then s (ts ++ e ∷ []) (mark sign.Assign) _ (nests_mark sign.Assign s k (λ b. refl))
      (nests_both ts (e ∷ []) (lines.value x) _ (rhs_nest ts x (all_front _ ts (e ∷ []) a.1) h) (nests_mark sign.Semicolon e l (λ b. refl)))

  type_nest : (ts : List Token) (x : Sort) → AreWritten text ts → IsType text ts x → Nests ts (sort x ∷ [])
  type_nest _ _ a (opaque_type {t = t} {o = o} k) = nests_key (opaque_key o) t k
  type_nest _ _ a (class_type {t = t} {w = w} n) = nests_name text t w a.0 n

  result_nest : (ts : List Token) (x : Sort) → AreWritten text ts → IsResult text ts x → Nests ts (sort x ∷ [])
  result_nest _ _ a (no_result {t = t} k) = nests_key keyword.Void t k
  result_nest ts x a (some_result h) = type_nest ts x a h

  param_nest : (ts : List Token) (x : Param) → AreWritten text ts → IsParam text ts x → Nests ts (shared.param x)
  param_nest _ _ a (param {t = t} {name = name} {n = n} {x = x} h i) =
      then t (name ∷ []) (sort x) _ (type_nest (t ∷ []) x (a.0, tt) h) (nests_name text name n a.1.0 i)

  params_nest : (ts : List Token) (xs : List Param) → AreWritten text ts → IsParams text ts xs → Nests ts (shared.params xs)
  params_nest _ xs a (params {opening = o} {closing = z} {ts = ts} h l e) =
      nests_parens o z ts _ h e (listed_nest text (IsParam text) shared.param param_nest ts xs (all_front _ ts (z ∷ []) a.1) l)

  return_nest : (ts : List Token) (x : Return) → AreWritten text ts → IsReturn text ts x → Nests ts (lines.returning x)
  return_nest _ _ a (bare_return {keyword = r} {semicolon = e} k l) =
      then r (e ∷ []) (key keyword.Return) _ (nests_key keyword.Return r k) (nests_mark sign.Semicolon e l (λ b. refl))
  return_nest _ _ a (with_return {keyword = r} {semicolon = e} {ts = ts} {w = w} k h l) =
      then r (ts ++ e ∷ []) (key keyword.Return) _ (nests_key keyword.Return r k)
      (nests_both ts (e ∷ []) (lines.argument w) _ (arg_nest ts w (all_front _ ts (e ∷ []) a.1) h) (nests_mark sign.Semicolon e l (λ b. refl)))

  mutual
    statement_nest : (ts : List Token) (x : Stmt) → AreWritten text ts → IsStmt text ts x → Nests ts (statement_tokens (statement_of x))
    statement_nest _ _ a (declare {t = t} {name = name} {semicolon = e} {n = n} {s = s} i j k) =
        subst (StatementNests (t ∷ name ∷ e ∷ [])) (sym (plain_declare t.place s n None))
        (then t (name ∷ e ∷ []) (sort s) _ (type_nest (t ∷ []) s (a.0, tt) i)
        (then name (e ∷ []) (named n) _ (nests_name text name n a.1.0 j) (nests_mark sign.Semicolon e k (λ b. refl))))
    statement_nest _ _ a (declare_set {t = t} {name = name} {n = n} {ts = ts} {s = s} {x = v} i j h) =
        subst (StatementNests (t ∷ name ∷ ts)) (sym (plain_declare t.place s n (Some v)))
        (then t (name ∷ ts) (sort s) _ (type_nest (t ∷ []) s (a.0, tt) i) (then name ts (named n) _ (nests_name text name n a.1.0 j) (set_nest ts v a.1.1 h)))
    statement_nest _ _ a (assign {name = name} {n = n} {ts = ts} {x = v} j h) =
        subst (StatementNests (name ∷ ts)) (sym (plain_assign n v)) (then name ts (named n) _ (nests_name text name n a.0 j) (set_nest ts v a.1 h))
    statement_nest _ _ a (act {semicolon = e} {ts = ts} {x = v} h k) =
        subst (StatementNests (ts ++ e ∷ [])) (sym (plain_do v))
        (nests_both ts (e ∷ []) (lines.value v) _ (action_nest ts v (all_front _ ts (e ∷ []) a) h) (nests_mark sign.Semicolon e k (λ b. refl)))
    statement_nest _ _ a (if_alone {keyword = k} {ts = ts} {us = us} {t = t} {xs = xs} i g b) =
        let one = brace (block_tokens (block_of xs)) in
        subst (StatementNests (k ∷ (ts ++ us))) (sym (plain_if k.place t xs [] false))
        (then k (ts ++ us) (key keyword.If) _ (nests_key keyword.If k i)
        (nests_both ts us (parens (lines.test t)) _ (guard_nest ts t (all_front _ ts us a.1) g)
        (subst (Nests us) (sym (append-nil one)) (block_nest us xs (all_back _ ts us a.1) b))))
    statement_nest _ _ a (if_else {keyword = k} {other = o} {ts = ts} {us = us} {vs = vs} {t = t} {xs = xs} {ys = ys} i g b j d) =
        let behind = all_back _ ts (us ++ o ∷ vs) a.1 in
        subst (StatementNests (k ∷ (ts ++ (us ++ o ∷ vs)))) (sym (plain_if k.place t xs ys true))
        (then k (ts ++ (us ++ o ∷ vs)) (key keyword.If) _ (nests_key keyword.If k i)
        (nests_both ts (us ++ o ∷ vs) (parens (lines.test t)) _ (guard_nest ts t (all_front _ ts (us ++ o ∷ vs) a.1) g)
        (nests_both us (o ∷ vs) (brace (block_tokens (block_of xs))) _ (block_nest us xs (all_front _ us (o ∷ vs) behind) b)
        (then o vs (key keyword.Else) _ (nests_key keyword.Else o j) (block_nest vs ys (all_back _ us (o ∷ vs) behind).1 d)))))
    statement_nest _ _ a (while {keyword = k} {ts = ts} {us = us} {t = t} {xs = xs} i g b) =
        subst (StatementNests (k ∷ (ts ++ us))) (sym (plain_while k.place t xs))
        (then k (ts ++ us) (key keyword.While) _ (nests_key keyword.While k i)
        (nests_both ts us (parens (lines.test t)) _ (guard_nest ts t (all_front _ ts us a.1) g) (block_nest us xs (all_back _ ts us a.1) b)))
    statement_nest _ _ a (break {keyword = k} {semicolon = e} i j) =
        subst (StatementNests (k ∷ e ∷ [])) (sym (plain_break k.place))
        (then k (e ∷ []) (key keyword.Break) _ (nests_key keyword.Break k i) (nests_mark sign.Semicolon e j (λ b. refl)))
    statement_nest _ _ a (continue {keyword = k} {semicolon = e} i j) =
        subst (StatementNests (k ∷ e ∷ [])) (sym (plain_continue k.place))
        (then k (e ∷ []) (key keyword.Continue) _ (nests_key keyword.Continue k i) (nests_mark sign.Semicolon e j (λ b. refl)))
    statement_nest _ _ a (return {ts = ts} {x = r} h) = subst (StatementNests ts) (sym (plain_return r)) (return_nest ts r a h)

    block_nest : (ts : List Token) (xs : List Stmt) → AreWritten text ts → IsBlock text ts xs → Nests ts (brace (block_tokens (block_of xs)))
    block_nest _ xs a (block {begin = o} {end = z} {ts = ts} k h l) = nests_braces o z ts _ k l (statements_nest ts xs (all_front _ ts (z ∷ []) a.1) h)

    statements_nest : (ts : List Token) (xs : List Stmt) → AreWritten text ts → IsStmts text ts xs → Nests ts (block_tokens (block_of xs))
    statements_nest _ _ a no_stmts = nests_nothing
    statements_nest _ _ a (next_stmt {ts = ts} {us = us} {x = x} {xs = xs} h hs) =
        nests_both ts us _ _ (statement_nest ts x (all_front _ ts us a) h) (statements_nest us xs (all_back _ ts us a) hs)

  static_nest : (ts : List Token) (x : Static) → AreWritten text ts → IsStatic text ts x → Nests ts (static_tokens x)
  static_nest _ _ a (static {keyword = k} {name = name} {assign = q} {semicolon = e} {n = n} {ts = ts} {us = us} {s = s} {x = v} h i j o l z) =
      let tail = name ∷ q ∷ (us ++ e ∷ []) in
      let b = all_back _ ts tail a.1 in
      then k (ts ++ tail) (key keyword.Static) _ (nests_key keyword.Static k h)
      (nests_both ts tail (sort s ∷ []) _ (type_nest ts s (all_front _ ts tail a.1) i)
      (then name (q ∷ (us ++ e ∷ [])) (named n) _ (nests_name text name n b.0 j)
      (then q (us ++ e ∷ []) (mark sign.Assign) _ (nests_mark sign.Assign q o (λ c. refl))
      (nests_both us (e ∷ []) (lines.value v) _ (initial_nest us v (all_front _ us (e ∷ []) b.1.1) l) (nests_mark sign.Semicolon e z (λ c. refl))))))

  procedure_nest : (ts : List Token) (x : Proc) → AreWritten text ts → IsProc text ts x → Nests ts (procedure_tokens x)
  procedure_nest _ _ a
      (procedure {result = result} {name = name} {begin = o} {end = z} {n = n} {ts = ts} {us = us} {r = res} {ps = ps} {xs = xs} k i p b h e) =
      let tail = o ∷ (us ++ z ∷ []) in
      let body = statements_nest us xs (all_front _ us (z ∷ []) (all_back _ ts tail a.1.1).1) h in
      let braces : Nests tail (brace (block_tokens (block_of xs))) = nests_braces o z us _ b e body in
      then result (name ∷ (ts ++ tail)) (sort res) _ (result_nest (result ∷ []) res (a.0, tt) k)
      (then name (ts ++ tail) (named n) _ (nests_name text name n a.1.0 i)
      (nests_both ts tail (shared.params ps) _ (params_nest ts ps (all_front _ ts tail a.1.1) p) braces))

  items_nest : (ts : List Token) (xs : List Static) (ys : List Proc) (order : List Bool) → AreWritten text ts → IsItems text ts xs ys order
      → Nests ts (item_tokens order xs ys)
  items_nest _ _ _ _ a no_items = nests_nothing
  items_nest _ _ _ _ a (next_static {ts = ts} {us = us} {x = x} {xs = xs} {ys = ys} {order = order} h more) =
      nests_both ts us _ _ (static_nest ts x (all_front _ ts us a) h) (items_nest us xs ys order (all_back _ ts us a) more)
  items_nest _ _ _ _ a (next_procedure {ts = ts} {us = us} {y = y} {xs = xs} {ys = ys} {order = order} h more) =
      nests_both ts us _ _ (procedure_nest ts y (all_front _ ts us a) h) (items_nest us xs ys order (all_back _ ts us a) more)

  pub client_nest : (end : Place) (ts : List Token) (x : Client) → AreWritten text ts → IsClient text end ts x
      → Nests ts (item_tokens x.order x.statics x.procedures)
  client_nest end ts _ a (client {xs = xs} {ys = ys} {order = order} h) = items_nest ts xs ys order a h
