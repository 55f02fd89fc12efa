-- The grammar of clients: which tokens of a text spell which tree, a constructor for each rule.
use Rattle.std.specs.Prelude.{ℕ, Bool, true, false, List, [], ◌∷◌, ◌++◌, Some, None}
use Rattle.easl_model.specs.Grammar.{IsListed, IsType, IsResult, IsParams}
use Rattle.easl_model.specs.Lexemes.{IsMark, IsKey, IsName, IsLiteral}
use Rattle.easl_model.specs.declared.place.Place.{Place}
use Rattle.easl_model.specs.declared.token.Key.TheVariants as key
use Rattle.easl_model.specs.declared.token.Mark.TheVariants as mark
use Rattle.easl_model.specs.declared.token.Token.{Token}
use Rattle.easl_model.specs.declared.tree.Param.{Param}
use Rattle.easl_model.specs.declared.tree.Sort.{Sort}
use Rattle.easl_model.specs.declared.tree.Word.{Word}
use Rattle.client_model.specs.declared.tree.Call.{Call}
use Rattle.client_model.specs.declared.tree.Client.{Client}
use Rattle.client_model.specs.declared.tree.Component.{Component}
use Rattle.client_model.specs.declared.tree.New.{New}
use Rattle.client_model.specs.declared.tree.Proc.{Proc}
use Rattle.client_model.specs.declared.tree.Return.{Return}
use Rattle.client_model.specs.declared.tree.Rhs.{Rhs}
use Rattle.client_model.specs.declared.tree.Rhs.TheVariants as rhs
use Rattle.client_model.specs.declared.tree.Static.{Static}
use Rattle.client_model.specs.declared.tree.Stmt.{Stmt}
use Rattle.client_model.specs.declared.tree.Stmt.TheVariants as stmt
use Rattle.client_model.specs.declared.tree.Test.{Test}
use Rattle.client_model.specs.declared.tree.Test.TheVariants as test

-- Name | literal
pub data IsArg (text : List ℕ) : List Token → Word → Type 0 where
  name_arg : {t : Token} {w : Word} → IsName text t w → IsArg text (t ∷ []) w
  literal_arg : {t : Token} {w : Word} → IsLiteral text t w → IsArg text (t ∷ []) w

-- "(" (arg ("," arg)*)? ")"
pub data IsArgs (text : List ℕ) : List Token → List Word → Type 0 where
  args : {opening closing : Token} {ts : List Token} {ws : List Word} → IsMark mark.Open opening → IsListed (IsArg text) ts ws
      → IsMark mark.Close closing → IsArgs text (opening ∷ ts ++ closing ∷ []) ws

-- "new" Name args
pub data IsNew (text : List ℕ) : List Token → New → Type 0 where
  new : {keyword class : Token} {c : Word} {ts : List Token} {ws : List Word} → IsKey key.New keyword → IsName text class c → IsArgs text ts ws
      → IsNew text (keyword ∷ class ∷ ts) (record { place = keyword.place; class = c; args = ws })

-- Name "." Name args
pub data IsComponent (text : List ℕ) : List Token → Component → Type 0 where
  component : {receiver dot method : Token} {r m : Word} {ts : List Token} {ws : List Word} → IsName text receiver r → IsMark mark.Dot dot
      → IsName text method m → IsArgs text ts ws → IsComponent text (receiver ∷ dot ∷ method ∷ ts) (record { receiver = r; method = m; args = ws })

-- Name args
pub data IsCall (text : List ℕ) : List Token → Call → Type 0 where
  call : {procedure : Token} {p : Word} {ts : List Token} {ws : List Word} → IsName text procedure p → IsArgs text ts ws
      → IsCall text (procedure ∷ ts) (record { procedure = p; args = ws })

-- arg | new | component
pub data IsInitial (text : List ℕ) : List Token → Rhs → Type 0 where
  copy_initial : {ts : List Token} {w : Word} → IsArg text ts w → IsInitial text ts (rhs.Copy w)
  new_initial : {ts : List Token} {x : New} → IsNew text ts x → IsInitial text ts (rhs.New x)
  component_initial : {ts : List Token} {x : Component} → IsComponent text ts x → IsInitial text ts (rhs.Component x)

-- initial | call
pub data IsRhs (text : List ℕ) : List Token → Rhs → Type 0 where
  initial_rhs : {ts : List Token} {x : Rhs} → IsInitial text ts x → IsRhs text ts x
  call_rhs : {ts : List Token} {x : Call} → IsCall text ts x → IsRhs text ts (rhs.Call x)

-- component | call | new
pub data IsAction (text : List ℕ) : List Token → Rhs → Type 0 where
  component_action : {ts : List Token} {x : Component} → IsComponent text ts x → IsAction text ts (rhs.Component x)
  call_action : {ts : List Token} {x : Call} → IsCall text ts x → IsAction text ts (rhs.Call x)
  new_action : {ts : List Token} {x : New} → IsNew text ts x → IsAction text ts (rhs.New x)

-- "?" | component
pub data IsTest (text : List ℕ) : List Token → Test → Type 0 where
  free_test : {t : Token} → IsMark mark.Choice t → IsTest text (t ∷ []) (test.Free t.place)
  call_test : {ts : List Token} {x : Component} → IsComponent text ts x → IsTest text ts (test.Call x)

-- "(" test ")"
pub data IsGuard (text : List ℕ) : List Token → Test → Type 0 where
  guard : {opening closing : Token} {ts : List Token} {x : Test} → IsMark mark.Open opening → IsTest text ts x → IsMark mark.Close closing
      → IsGuard text (opening ∷ ts ++ closing ∷ []) x

-- "=" rhs ";"
pub data IsSet (text : List ℕ) : List Token → Rhs → Type 0 where
  set : {assign semicolon : Token} {ts : List Token} {x : Rhs} → IsMark mark.Assign assign → IsRhs text ts x → IsMark mark.Semicolon semicolon
      → IsSet text (assign ∷ ts ++ semicolon ∷ []) x

-- "return" ";" | "return" arg ";"
pub data IsReturn (text : List ℕ) : List Token → Return → Type 0 where
  bare_return : {keyword semicolon : Token} → IsKey key.Return keyword → IsMark mark.Semicolon semicolon
      → IsReturn text (keyword ∷ semicolon ∷ []) (record { place = keyword.place; value = None })
  with_return : {keyword semicolon : Token} {ts : List Token} {w : Word} → IsKey key.Return keyword → IsArg text ts w
      → IsMark mark.Semicolon semicolon → IsReturn text (keyword ∷ ts ++ semicolon ∷ []) (record { place = keyword.place; value = Some w })

mutual
  -- type Name ";" | type Name set | Name set | action ";"
  -- | "if" guard block | "if" guard block "else" block | "while" guard block
  -- | "break" ";" | "continue" ";" | return
  pub data IsStmt (text : List ℕ) : List Token → Stmt → Type 0 where
    declare : {t name semicolon : Token} {n : Word} {s : Sort} → IsType text (t ∷ []) s → IsName text name n → IsMark mark.Semicolon semicolon
        → IsStmt text (t ∷ name ∷ semicolon ∷ []) (stmt.Declare t.place s n None)
    declare_set : {t name : Token} {n : Word} {ts : List Token} {s : Sort} {x : Rhs} → IsType text (t ∷ []) s → IsName text name n → IsSet text ts x
        → IsStmt text (t ∷ name ∷ ts) (stmt.Declare t.place s n (Some x))
    assign : {name : Token} {n : Word} {ts : List Token} {x : Rhs} → IsName text name n → IsSet text ts x → IsStmt text (name ∷ ts) (stmt.Assign n x)
    act : {semicolon : Token} {ts : List Token} {x : Rhs} → IsAction text ts x → IsMark mark.Semicolon semicolon
        → IsStmt text (ts ++ semicolon ∷ []) (stmt.Do x)
    if_alone : {keyword : Token} {ts us : List Token} {t : Test} {xs : List Stmt} → IsKey key.If keyword → IsGuard text ts t → IsBlock text us xs
        → IsStmt text (keyword ∷ (ts ++ us)) (stmt.If keyword.place t xs [] false)
    if_else : {keyword other : Token} {ts us vs : List Token} {t : Test} {xs ys : List Stmt} → IsKey key.If keyword → IsGuard text ts t
        → IsBlock text us xs → IsKey key.Else other → IsBlock text vs ys
        → IsStmt text (keyword ∷ (ts ++ (us ++ other ∷ vs))) (stmt.If keyword.place t xs ys true)
    while : {keyword : Token} {ts us : List Token} {t : Test} {xs : List Stmt} → IsKey key.While keyword → IsGuard text ts t → IsBlock text us xs
        → IsStmt text (keyword ∷ (ts ++ us)) (stmt.While keyword.place t xs)
    break : {keyword semicolon : Token} → IsKey key.Break keyword → IsMark mark.Semicolon semicolon
        → IsStmt text (keyword ∷ semicolon ∷ []) (stmt.Break keyword.place)
    continue : {keyword semicolon : Token} → IsKey key.Continue keyword → IsMark mark.Semicolon semicolon
        → IsStmt text (keyword ∷ semicolon ∷ []) (stmt.Continue keyword.place)
    return : {ts : List Token} {x : Return} → IsReturn text ts x → IsStmt text ts (stmt.Return x)

  -- "{" stmt* "}"
  pub data IsBlock (text : List ℕ) : List Token → List Stmt → Type 0 where
    block : {begin end : Token} {ts : List Token} {xs : List Stmt} → IsMark mark.Begin begin → IsStmts text ts xs → IsMark mark.End end
        → IsBlock text (begin ∷ ts ++ end ∷ []) xs

  -- stmt*
  pub data IsStmts (text : List ℕ) : List Token → List Stmt → Type 0 where
    no_stmts : IsStmts text [] []
    next_stmt : {ts us : List Token} {x : Stmt} {xs : List Stmt} → IsStmt text ts x → IsStmts text us xs → IsStmts text (ts ++ us) (x ∷ xs)

-- "static" type Name "=" initial ";"
pub data IsStatic (text : List ℕ) : List Token → Static → Type 0 where
  static : {keyword name assign semicolon : Token} {n : Word} {ts us : List Token} {s : Sort} {x : Rhs} → IsKey key.Static keyword → IsType text ts s
      → IsName text name n → IsMark mark.Assign assign → IsInitial text us x → IsMark mark.Semicolon semicolon
      → IsStatic text (keyword ∷ (ts ++ (name ∷ (assign ∷ (us ++ semicolon ∷ []))))) (record { place = keyword.place; sort = s; name = n; value = x })

-- result Name params "{" stmt* "}"
pub data IsProc (text : List ℕ) : List Token → Proc → Type 0 where
  procedure : {result name begin end : Token} {n : Word} {ts us : List Token} {r : Sort} {ps : List Param} {xs : List Stmt}
      → IsResult text (result ∷ []) r → IsName text name n → IsParams text ts ps → IsMark mark.Begin begin → IsStmts text us xs → IsMark mark.End end
      → IsProc text (result ∷ name ∷ (ts ++ (begin ∷ (us ++ end ∷ [])))) (record { place = result.place; result = r; name = n; params = ps; body = xs; end = end.place })

-- (static | procedure)*, with the statics, the procedures, and of each item in order whether it is a static
pub data IsItems (text : List ℕ) : List Token → List Static → List Proc → List Bool → Type 0 where
  no_items : IsItems text [] [] [] []
  next_static : {ts us : List Token} {x : Static} {xs : List Static} {ys : List Proc} {order : List Bool} → IsStatic text ts x
      → IsItems text us xs ys order → IsItems text (ts ++ us) (x ∷ xs) ys (true ∷ order)
  next_procedure : {ts us : List Token} {y : Proc} {xs : List Static} {ys : List Proc} {order : List Bool} → IsProc text ts y
      → IsItems text us xs ys order → IsItems text (ts ++ us) xs (y ∷ ys) (false ∷ order)

-- items, where the text ends at the place
pub data IsClient (text : List ℕ) (end : Place) : List Token → Client → Type 0 where
  client : {ts : List Token} {xs : List Static} {ys : List Proc} {order : List Bool} → IsItems text ts xs ys order
      → IsClient text end ts (record { statics = xs; procedures = ys; order = order; end = end })
