-- Each token takes a byte of the text, and each item, parameter and statement two tokens.
use Rattle.std.proofs.Common.{◌≡◌, ℕ, suc, ◌+◌, ◌*◌, ◌≤◌, Bool, List, [], ◌∷◌, ◌++◌, IsUtf8, chars, length, sym, ap, ◌∙◌, arith, length-append}
use Rattle.std.specs.Prelude.{None, Some, false, true}
use Rattle.std.proofs.lemmas.Str.{chars-encodes, length-le-encodes}
use Rattle.client_model.proofs.PlainStatements.{plain, plain_assign, plain_break, plain_continue, plain_declare, plain_do, plain_if, plain_return, plain_while}
use Rattle.client_model.specs.Grammar.{IsBlock, IsClient, IsItems, IsProc, IsReturn, IsStatic, IsStmt, IsStmts, act, assign, bare_return, block, break}
use Rattle.client_model.specs.Grammar.{client, continue, declare, declare_set, if_alone, if_else, next_procedure, next_static, next_stmt, no_items}
use Rattle.client_model.specs.Grammar.{no_stmts, procedure, return, static, while, with_return}
use Rattle.client_model.specs.Grammar.{IsAction, IsGuard, IsSet, call, call_action, component, component_action, guard, new, new_action, set}
use Rattle.client_model.specs.Nodes.{count, count_in}
use Rattle.client_model.specs.Statements.{statement_of}
use Rattle.client_model.specs.Trees.{Initialiser, Item, Procedure, client_of, items_of}
use Rattle.client_model.specs.declared.tree.Client.{Client}
use Rattle.client_model.specs.declared.tree.Proc.{Proc}
use Rattle.client_model.specs.declared.tree.Return.{Return}
use Rattle.client_model.specs.declared.tree.Rhs.{Rhs}
use Rattle.client_model.specs.declared.tree.Static.{Static}
use Rattle.client_model.specs.declared.tree.Stmt.{Stmt}
use Rattle.client_model.specs.declared.tree.Stmt.TheVariants as stmt
use Rattle.client_model.specs.declared.tree.Test.{Test}
use Rattle.easl_model.proofs.Words.{token_some}
use Rattle.easl_model.specs.Grammar.{IsListed, IsMore, IsParam, IsParams, listed, no_more, nothing, one_more, param, params}
use Rattle.easl_model.specs.Tokens.{AreTokens, Cut, byte_len, done, gap, token}
use Rattle.easl_model.specs.declared.place.Place.{Place}
use Rattle.easl_model.specs.declared.token.Token.{Token}
use Rattle.easl_model.specs.declared.tree.Param.{Param}
use Rattle.easl_model.specs.declared.token.Tokens.{Tokens}

few_in_cut : (before cs : List ℕ) (ts : List Token) → Cut before cs ts → length ts ≤ length cs
few_in_cut _ _ _ (done before) = omega arith
few_in_cut _ _ _ (gap before cs rest ts is more) = omega (arith, few_in_cut (before ++ cs) rest ts more, length-append cs rest)
few_in_cut _ _ _ (token k before [] rest ts longest more) = absurd (token_some k longest.is_token)
few_in_cut _ _ _ (token k before (c ∷ cs) rest ts longest more) =
    omega (arith, few_in_cut (before ++ c ∷ cs) rest ts more, length-append cs rest)

chars_size : (text : List ℕ) → IsUtf8 text → byte_len (chars text) ≡ length text
chars_size text u =
    let decoded : chars text ≡ u.0 = ap chars (sym u.1.1) ∙ chars-encodes u.0 u.1.0 in
    ap byte_len decoded ∙ ap length u.1.1

pub few_tokens : (text : List ℕ) (tokens : Tokens) → AreTokens text tokens → length tokens.list ≤ length text
few_tokens text tokens are =
    omega (arith, few_in_cut [] (chars text) tokens.list are.cut, length-le-encodes (chars text), chars_size text are.utf8)

-- how many items these are, with the parameters and the statements in their bodies
abbrev pub size_of : List Item → ℕ
size_of [] = 0
size_of (Initialiser x ∷ rest) = suc (size_of rest)
size_of (Procedure p ∷ rest) = suc (length p.params + count p.body) + size_of rest

module _ (text : List ℕ) where
  some_in_return : (ts : List Token) (r : Return) → IsReturn text ts r → 2 ≤ length ts
  some_in_return _ _ (bare_return key last) = omega arith
  some_in_return _ _ (with_return {semicolon = k} {ts = ts} key value last) = omega (arith, length-append ts (k ∷ []))

  some_in_set : (ts : List Token) (x : Rhs) → IsSet text ts x → 1 ≤ length ts
  some_in_set _ _ (set _ _ _) = omega arith

  some_in_action : (ts : List Token) (x : Rhs) → IsAction text ts x → 1 ≤ length ts
  some_in_action _ _ (component_action (component _ _ _ _)) = omega arith
  some_in_action _ _ (call_action (call _ _)) = omega arith
  some_in_action _ _ (new_action (new _ _ _)) = omega arith

  some_in_guard : (ts : List Token) (x : Test) → IsGuard text ts x → 1 ≤ length ts
  some_in_guard _ _ (guard _ _ _) = omega arith

  few_in_param : (ts : List Token) (p : Param) → IsParam text ts p → 2 ≤ length ts
  few_in_param _ _ (param _ _) = omega arith

  few_in_more : (ts : List Token) (ps : List Param) → IsMore (IsParam text) ts ps → 2 * length ps ≤ length ts
  few_in_more _ _ no_more = omega arith
  few_in_more _ _ (one_more {ts = ts} {us = us} {x = p} {xs = ps} comma first rest) =
      omega (arith, length-append ts us, few_in_param ts p first, few_in_more us ps rest)

  few_in_listed : (ts : List Token) (ps : List Param) → IsListed (IsParam text) ts ps → 2 * length ps ≤ length ts
  few_in_listed _ _ nothing = omega arith
  few_in_listed _ _ (listed {ts = ts} {us = us} {x = p} {xs = ps} first rest) =
      omega (arith, length-append ts us, few_in_param ts p first, few_in_more us ps rest)

  few_in_params : (ts : List Token) (ps : List Param) → IsParams text ts ps → 2 * length ps ≤ length ts
  few_in_params _ _ (params {closing = k} {ts = ts} {ps = ps} opening inner closing) = omega (arith, length-append ts (k ∷ []), few_in_listed ts ps inner)

  mutual
    pub few_in_stmt : (ts : List Token) (x : Stmt) → IsStmt text ts x → 2 * count_in (statement_of x) ≤ length ts
    few_in_stmt _ _ (declare {t = t} {n = n} {s = s} type name last) =
        let one : count_in (statement_of (stmt.Declare t.place s n None)) ≡ 1 = ap count_in (plain_declare t.place s n None) in
        omega (arith, one)
    few_in_stmt _ _ (declare_set {t = t} {n = n} {s = s} {x = v} type name value) =
        let one : count_in (statement_of (stmt.Declare t.place s n (Some v))) ≡ 1 = ap count_in (plain_declare t.place s n (Some v)) in
        omega (arith, one)
    few_in_stmt _ _ (assign {n = n} {ts = ts} {x = v} name value) =
        let one : count_in (statement_of (stmt.Assign n v)) ≡ 1 = ap count_in (plain_assign n v) in omega (arith, one, some_in_set ts v value)
    few_in_stmt _ _ (act {semicolon = k} {ts = ts} {x = v} action last) =
        let one : count_in (statement_of (stmt.Do v)) ≡ 1 = ap count_in (plain_do v) in
        omega (arith, one, length-append ts (k ∷ []), some_in_action ts v action)
    few_in_stmt _ _ (if_alone {keyword = at} {ts = ts} {us = us} {t = t} {xs = xs} key asked first) =
        let all : count_in (statement_of (stmt.If at.place t xs [] false)) ≡ suc (count (plain xs) + 0) = ap count_in (plain_if at.place t xs [] false) in
        omega (arith, all, length-append ts us, some_in_guard ts t asked, few_in_block us xs first)
    few_in_stmt _ _ (if_else {keyword = at} {other = k} {ts = ts} {us = us} {vs = vs} {t = t} {xs = xs} {ys = ys} key asked first other second) =
        let all : count_in (statement_of (stmt.If at.place t xs ys true)) ≡ suc (count (plain xs) + count (plain ys)) = ap count_in (plain_if at.place t xs ys true) in
        omega (
          arith,
          all,
          length-append ts (us ++ k ∷ vs),
          length-append us (k ∷ vs),
          some_in_guard ts t asked,
          few_in_block us xs first,
          few_in_block vs ys second,
        )
    few_in_stmt _ _ (while {keyword = at} {ts = ts} {us = us} {t = t} {xs = xs} key asked inner) =
        let all : count_in (statement_of (stmt.While at.place t xs)) ≡ suc (count (plain xs)) = ap count_in (plain_while at.place t xs) in
        omega (arith, all, length-append ts us, some_in_guard ts t asked, few_in_block us xs inner)
    few_in_stmt _ _ (break {keyword = at} key last) = let one : count_in (statement_of (stmt.Break at.place)) ≡ 1 = ap count_in (plain_break at.place) in omega (arith, one)
    few_in_stmt _ _ (continue {keyword = at} key last) = let one : count_in (statement_of (stmt.Continue at.place)) ≡ 1 = ap count_in (plain_continue at.place) in omega (arith, one)
    few_in_stmt _ _ (return {ts = ts} {x = r} written) =
        let one : count_in (statement_of (stmt.Return r)) ≡ 1 = ap count_in (plain_return r) in omega (arith, one, some_in_return ts r written)

    few_in_block : (ts : List Token) (xs : List Stmt) → IsBlock text ts xs → 2 * count (plain xs) ≤ length ts
    few_in_block _ _ (block {end = k} {ts = ts} {xs = xs} begin inner end) = omega (arith, length-append ts (k ∷ []), few_in_stmts ts xs inner)

    pub few_in_stmts : (ts : List Token) (xs : List Stmt) → IsStmts text ts xs → 2 * count (plain xs) ≤ length ts
    few_in_stmts _ _ no_stmts = omega arith
    few_in_stmts _ _ (next_stmt {ts = ts} {us = us} {x = x} {xs = xs} first rest) =
        omega (arith, length-append ts us, few_in_stmt ts x first, few_in_stmts us xs rest)

  few_in_static : (ts : List Token) (x : Static) → IsStatic text ts x → 2 ≤ length ts
  few_in_static _ _ (static {name = n} {assign = a} {semicolon = k} {ts = ts} {us = us} key type name assigned value last) =
      omega (arith, length-append ts (n ∷ (a ∷ (us ++ k ∷ []))))

  few_in_proc : (ts : List Token) (p : Proc) → IsProc text ts p → 2 * suc (length p.params + count (plain p.body)) ≤ length ts
  few_in_proc _ _ (procedure {begin = b} {end = e} {ts = ts} {us = us} {ps = ps} {xs = xs} gives name takes begin body end) =
      omega (arith, few_in_params ts ps takes, few_in_stmts us xs body, length-append ts (b ∷ (us ++ e ∷ [])), length-append us (e ∷ []))

  few_in_items : (ts : List Token) (xs : List Static) (ys : List Proc) (order : List Bool) → IsItems text ts xs ys order
      → 2 * size_of (items_of order xs ys) ≤ length ts
  few_in_items _ _ _ _ no_items = omega arith
  few_in_items _ _ _ _ (next_static {ts = ts} {us = us} {x = x} {xs = xs} {ys = ys} {order = order} first rest) =
      omega (arith, length-append ts us, few_in_static ts x first, few_in_items us xs ys order rest)
  few_in_items _ _ _ _ (next_procedure {ts = ts} {us = us} {y = y} {xs = xs} {ys = ys} {order = order} first rest) =
      omega (arith, length-append ts us, few_in_proc ts y first, few_in_items us xs ys order rest)

  -- a client has at most half as many items, parameters and statements as there are tokens
  pub few_in_client : (end : Place) (ts : List Token) (c : Client) → IsClient text end ts c → 2 * size_of (client_of c).items ≤ length ts
  few_in_client end ts c (client {xs = xs} {ys = ys} {order = order} items) = few_in_items ts xs ys order items
