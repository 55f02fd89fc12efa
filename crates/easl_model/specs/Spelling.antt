-- The first wrong token of a text, by the spellings of its language.
use Rattle.std.specs.Prelude.{◌≡◌, ℕ, List, [], ◌∷◌, ◌++◌}
use Rattle.easl_model.specs.Grammar.{IsSpec}
use Rattle.easl_model.specs.declared.place.Place.{Place}
use Rattle.easl_model.specs.declared.token.Token.{Token}
use Rattle.easl_model.specs.declared.tree.Spec.{Spec}

-- these tokens begin a spelling
abbrev pub Begins : {A : Type 0} → (List Token → A → Type 0) → List Token → Type 0
Begins {A} S before = (after : List Token) × (x : A) × S (before ++ after) x

-- with the next token those before it begin no spelling; or there is none, and they are no spelling
abbrev pub Ends : {A : Type 0} → (List Token → A → Type 0) → List Token → List Token → Type 0
Ends {A} S before [] = (x : A) → S before x → ⊥
Ends S before (t ∷ after) = Begins S (before ++ t ∷ []) → ⊥

-- the first wrong token stands between these, or the text ends there too soon
pub record FirstWrong {A : Type 0} (S : List Token → A → Type 0) (before after : List Token) : Type 0 where
  pub begins : Begins S before
  pub ends : Ends S before after

-- the place of the first of these tokens, or of the text's end
abbrev pub first_place : Place → List Token → Place
first_place end [] = end
first_place end (t ∷ ts) = t.place

-- tokens spell at most one tree
abbrev pub OneTree : Type 0
OneTree = (text : List ℕ) (end : Place) (tokens : List Token) (x y : Spec) → IsSpec text end tokens x → IsSpec text end tokens y → x ≡ y
