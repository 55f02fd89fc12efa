-- The grammar of specifications: which tokens of a text spell which tree, a constructor for each rule.
use Rattle.std.specs.Prelude.{ℕ, true, false, List, [], ◌∷◌, ◌++◌, Option, Some, None}
use Rattle.easl_model.specs.Lexemes.{IsMark, IsKey, IsName, IsLiteral}
use Rattle.easl_model.specs.declared.place.Place.{Place}
use Rattle.easl_model.specs.declared.token.Key.{Key}
use Rattle.easl_model.specs.declared.token.Key.TheVariants as key
use Rattle.easl_model.specs.declared.token.Mark.TheVariants as mark
use Rattle.easl_model.specs.declared.token.Token.{Token}
use Rattle.easl_model.specs.declared.tree.Arg.{Arg}
use Rattle.easl_model.specs.declared.tree.Arg.TheVariants as arg
use Rattle.easl_model.specs.declared.tree.Class.{Class}
use Rattle.easl_model.specs.declared.tree.Cond.{Cond}
use Rattle.easl_model.specs.declared.tree.Cond.TheVariants as cond
use Rattle.easl_model.specs.declared.tree.Member.{Member}
use Rattle.easl_model.specs.declared.tree.Member.TheVariants as member
use Rattle.easl_model.specs.declared.tree.Opaque.{Opaque}
use Rattle.easl_model.specs.declared.tree.Opaque.TheVariants as opaque
use Rattle.easl_model.specs.declared.tree.Param.{Param}
use Rattle.easl_model.specs.declared.tree.Path.{Path}
use Rattle.easl_model.specs.declared.tree.Requires.{Requires}
use Rattle.easl_model.specs.declared.tree.Return.{Return}
use Rattle.easl_model.specs.declared.tree.Sort.{Sort}
use Rattle.easl_model.specs.declared.tree.Sort.TheVariants as sort
use Rattle.easl_model.specs.declared.tree.Spec.{Spec}
use Rattle.easl_model.specs.declared.tree.Step.{Step}
use Rattle.easl_model.specs.declared.tree.Step.TheVariants as step
use Rattle.easl_model.specs.declared.tree.Value.{Value}
use Rattle.easl_model.specs.declared.tree.Value.TheVariants as value
use Rattle.easl_model.specs.declared.tree.Word.{Word}

-- x*
pub data IsMany {A : Type 0} (I : List Token → A → Type 0) : List Token → List A → Type 0 where
  none_of : IsMany I [] []
  next_of : {ts us : List Token} {x : A} {xs : List A} → I ts x → IsMany I us xs → IsMany I (ts ++ us) (x ∷ xs)

-- ("," x)*
pub data IsMore {A : Type 0} (I : List Token → A → Type 0) : List Token → List A → Type 0 where
  no_more : IsMore I [] []
  one_more : {comma : Token} {ts us : List Token} {x : A} {xs : List A} → IsMark mark.Comma comma → I ts x → IsMore I us xs → IsMore I (comma ∷ ts ++ us) (x ∷ xs)

-- (x ("," x)*)?
pub data IsListed {A : Type 0} (I : List Token → A → Type 0) : List Token → List A → Type 0 where
  nothing : IsListed I [] []
  listed : {ts us : List Token} {x : A} {xs : List A} → I ts x → IsMore I us xs → IsListed I (ts ++ us) (x ∷ xs)

-- ("." Name)*
pub data IsFields (text : List ℕ) : List Token → List Word → Type 0 where
  no_fields : IsFields text [] []
  next_field : {dot t : Token} {w : Word} {ts : List Token} {ws : List Word} → IsMark mark.Dot dot → IsName text t w → IsFields text ts ws
      → IsFields text (dot ∷ t ∷ ts) (w ∷ ws)

-- ("this" | Name) fields
pub data IsPath (text : List ℕ) : List Token → Path → Type 0 where
  this_path : {t : Token} {ts : List Token} {ws : List Word} → IsKey key.This t → IsFields text ts ws
      → IsPath text (t ∷ ts) (record { head = None; place = t.place; fields = ws })
  named_path : {t : Token} {w : Word} {ts : List Token} {ws : List Word} → IsName text t w → IsFields text ts ws
      → IsPath text (t ∷ ts) (record { head = Some w; place = w.place; fields = ws })

-- path ("==" | "!=") path
pub data IsComparison (text : List ℕ) : List Token → Cond → Type 0 where
  same : {t : Token} {ts us : List Token} {p q : Path} → IsPath text ts p → IsMark mark.Same t → IsPath text us q
      → IsComparison text (ts ++ t ∷ us) (cond.Same p q)
  differ : {t : Token} {ts us : List Token} {p q : Path} → IsPath text ts p → IsMark mark.Differ t → IsPath text us q
      → IsComparison text (ts ++ t ∷ us) (cond.Differ p q)

mutual
  -- all ("||" all)*, where one member is itself
  pub data IsAny (text : List ℕ) : List Token → Cond → Type 0 where
    any_one : {ts : List Token} {x : Cond} → IsAll text ts x → IsAny text ts x
    any_more : {ts us : List Token} {x y : Cond} {ys : List Cond} → IsAll text ts x → IsAlls text us (y ∷ ys) → IsAny text (ts ++ us) (cond.Any (x ∷ y ∷ ys))

  -- ("||" all)*
  pub data IsAlls (text : List ℕ) : List Token → List Cond → Type 0 where
    no_alls : IsAlls text [] []
    next_all : {t : Token} {ts us : List Token} {x : Cond} {xs : List Cond} → IsMark mark.Or t → IsAll text ts x → IsAlls text us xs
        → IsAlls text (t ∷ ts ++ us) (x ∷ xs)

  -- atom ("&&" atom)*, where one member is itself
  pub data IsAll (text : List ℕ) : List Token → Cond → Type 0 where
    all_one : {ts : List Token} {x : Cond} → IsAtom text ts x → IsAll text ts x
    all_more : {ts us : List Token} {x y : Cond} {ys : List Cond} → IsAtom text ts x → IsAtoms text us (y ∷ ys) → IsAll text (ts ++ us) (cond.All (x ∷ y ∷ ys))

  -- ("&&" atom)*
  pub data IsAtoms (text : List ℕ) : List Token → List Cond → Type 0 where
    no_atoms : IsAtoms text [] []
    next_atom : {t : Token} {ts us : List Token} {x : Cond} {xs : List Cond} → IsMark mark.And t → IsAtom text ts x → IsAtoms text us xs
        → IsAtoms text (t ∷ ts ++ us) (x ∷ xs)

  -- comparison | "(" any ")"
  pub data IsAtom (text : List ℕ) : List Token → Cond → Type 0 where
    comparison : {ts : List Token} {x : Cond} → IsComparison text ts x → IsAtom text ts x
    group : {opening closing : Token} {ts : List Token} {x : Cond} → IsMark mark.Open opening → IsAny text ts x → IsMark mark.Close closing
        → IsAtom text (opening ∷ ts ++ closing ∷ []) x

-- path | literal
pub data IsArg (text : List ℕ) : List Token → Arg → Type 0 where
  path_arg : {ts : List Token} {p : Path} → IsPath text ts p → IsArg text ts (arg.Path p)
  literal_arg : {t : Token} {w : Word} → IsLiteral text t w → IsArg text (t ∷ []) (arg.Literal w)

-- path | "new" Name "(" args? ")"
pub data IsValue (text : List ℕ) : List Token → Value → Type 0 where
  path_value : {ts : List Token} {p : Path} → IsPath text ts p → IsValue text ts (value.Path p)
  new_value : {new class opening closing : Token} {c : Word} {ts : List Token} {xs : List Arg} → IsKey key.New new → IsName text class c
      → IsMark mark.Open opening → IsListed (IsArg text) ts xs → IsMark mark.Close closing
      → IsValue text (new ∷ class ∷ opening ∷ ts ++ closing ∷ []) (value.New (record { place = new.place; class = c; args = xs }))

-- "=" value ";"
pub data IsSet (text : List ℕ) : List Token → Value → Type 0 where
  set : {assign semicolon : Token} {ts : List Token} {x : Value} → IsMark mark.Assign assign → IsValue text ts x → IsMark mark.Semicolon semicolon
      → IsSet text (assign ∷ ts ++ semicolon ∷ []) x

-- "(" comparison ")"
pub data IsGuard (text : List ℕ) : List Token → Cond → Type 0 where
  guard : {opening closing : Token} {ts : List Token} {x : Cond} → IsMark mark.Open opening → IsComparison text ts x → IsMark mark.Close closing
      → IsGuard text (opening ∷ ts ++ closing ∷ []) x

mutual
  -- Name Name set | path set | "if" guard block | "if" guard block "else" block
  pub data IsStep (text : List ℕ) : List Token → Step → Type 0 where
    declare : {class name : Token} {c n : Word} {ts : List Token} {x : Value} → IsName text class c → IsName text name n → IsSet text ts x
        → IsStep text (class ∷ name ∷ ts) (step.Declare c n x)
    assign : {ts us : List Token} {p : Path} {x : Value} → IsPath text ts p → IsSet text us x → IsStep text (ts ++ us) (step.Assign p x)
    if_alone : {keyword : Token} {ts us : List Token} {c : Cond} {xs : List Step} → IsKey key.If keyword → IsGuard text ts c → IsBlock text us xs
        → IsStep text (keyword ∷ (ts ++ us)) (step.If keyword.place c xs [] false)
    if_else : {keyword other : Token} {ts us vs : List Token} {c : Cond} {xs ys : List Step} → IsKey key.If keyword → IsGuard text ts c
        → IsBlock text us xs → IsKey key.Else other → IsBlock text vs ys
        → IsStep text (keyword ∷ (ts ++ (us ++ other ∷ vs))) (step.If keyword.place c xs ys true)

  -- "{" step* "}"
  pub data IsBlock (text : List ℕ) : List Token → List Step → Type 0 where
    block : {begin end : Token} {ts : List Token} {xs : List Step} → IsMark mark.Begin begin → IsSteps text ts xs → IsMark mark.End end
        → IsBlock text (begin ∷ ts ++ end ∷ []) xs

  -- step*
  pub data IsSteps (text : List ℕ) : List Token → List Step → Type 0 where
    no_steps : IsSteps text [] []
    next_step : {ts us : List Token} {x : Step} {xs : List Step} → IsStep text ts x → IsSteps text us xs → IsSteps text (ts ++ us) (x ∷ xs)

-- "requires" any ";"
pub data IsClause (text : List ℕ) : List Token → Requires → Type 0 where
  clause : {requires semicolon : Token} {ts : List Token} {x : Cond} → IsKey key.Requires requires → IsAny text ts x → IsMark mark.Semicolon semicolon
      → IsClause text (requires ∷ ts ++ semicolon ∷ []) (record { place = requires.place; condition = x })

-- ("return" value ";")?
pub data IsReturn (text : List ℕ) : List Token → Option Return → Type 0 where
  no_return : IsReturn text [] None
  with_return : {return semicolon : Token} {ts : List Token} {x : Value} → IsKey key.Return return → IsValue text ts x → IsMark mark.Semicolon semicolon
      → IsReturn text (return ∷ ts ++ semicolon ∷ []) (Some (record { place = return.place; value = x }))

abbrev pub opaque_key : Opaque → Key
opaque_key opaque.Object = key.Object
opaque_key opaque.Int = key.Int
opaque_key opaque.Boolean = key.Boolean
opaque_key opaque.String = key.String

-- opaque | Name
pub data IsType (text : List ℕ) : List Token → Sort → Type 0 where
  opaque_type : {t : Token} {o : Opaque} → IsKey (opaque_key o) t → IsType text (t ∷ []) (sort.Opaque o)
  class_type : {t : Token} {w : Word} → IsName text t w → IsType text (t ∷ []) (sort.Class w)

-- "void" | opaque | Name
pub data IsResult (text : List ℕ) : List Token → Sort → Type 0 where
  no_result : {t : Token} → IsKey key.Void t → IsResult text (t ∷ []) sort.Void
  some_result : {ts : List Token} {x : Sort} → IsType text ts x → IsResult text ts x

-- (opaque | Name) Name
pub data IsParam (text : List ℕ) : List Token → Param → Type 0 where
  param : {t name : Token} {n : Word} {x : Sort} → IsType text (t ∷ []) x → IsName text name n
      → IsParam text (t ∷ name ∷ []) (record { place = t.place; sort = x; name = n })

-- "(" params? ")"
pub data IsParams (text : List ℕ) : List Token → List Param → Type 0 where
  params : {opening closing : Token} {ts : List Token} {ps : List Param} → IsMark mark.Open opening → IsListed (IsParam text) ts ps
      → IsMark mark.Close closing → IsParams text (opening ∷ ts ++ closing ∷ []) ps

-- field | constructor | method, where
-- field := Name Name ";", constructor := Name params "{" step* "}", method := result Name params "{" clause* step* return? "}"
pub data IsMember (text : List ℕ) : List Token → Member → Type 0 where
  field : {class name semicolon : Token} {c n : Word} → IsName text class c → IsName text name n → IsMark mark.Semicolon semicolon
      → IsMember text (class ∷ name ∷ semicolon ∷ []) (member.Field (record { class = c; name = n }))
  constructor : {name begin end : Token} {n : Word} {ts us : List Token} {ps : List Param} {xs : List Step} → IsName text name n
      → IsParams text ts ps → IsMark mark.Begin begin → IsSteps text us xs → IsMark mark.End end
      → IsMember text (name ∷ (ts ++ (begin ∷ (us ++ end ∷ []))))
      (member.Constructor (record { place = name.place; result = sort.Void; name = n; params = ps; clauses = []; body = xs; value = None; end = end.place }))
  method : {result name begin end : Token} {n : Word} {ts us vs ws : List Token} {r : Sort} {ps : List Param} {cs : List Requires} {xs : List Step} {x : Option Return}
      → IsResult text (result ∷ []) r → IsName text name n → IsParams text ts ps → IsMark mark.Begin begin → IsMany (IsClause text) us cs
      → IsSteps text vs xs → IsReturn text ws x → IsMark mark.End end
      → IsMember text (result ∷ name ∷ (ts ++ (begin ∷ (us ++ (vs ++ (ws ++ end ∷ []))))))
      (member.Method (record { place = result.place; result = r; name = n; params = ps; clauses = cs; body = xs; value = x; end = end.place }))

-- "class" Name "{" member* "}"
pub data IsClass (text : List ℕ) : List Token → Class → Type 0 where
  class : {keyword name begin end : Token} {n : Word} {ts : List Token} {xs : List Member} → IsKey key.Class keyword → IsName text name n
      → IsMark mark.Begin begin → IsMany (IsMember text) ts xs → IsMark mark.End end
      → IsClass text (keyword ∷ name ∷ begin ∷ (ts ++ end ∷ [])) (record { place = keyword.place; name = n; members = xs })

-- class class*, where the text ends at the place
pub data IsSpec (text : List ℕ) (end : Place) : List Token → Spec → Type 0 where
  spec : {ts us : List Token} {x : Class} {xs : List Class} → IsClass text ts x → IsMany (IsClass text) us xs
      → IsSpec text end (ts ++ us) (record { classes = x ∷ xs; end = end })
