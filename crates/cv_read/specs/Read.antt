-- Reading tokens from the left: a value and what is left, or how many tokens are left where it stops, or that
-- it went too deep.
use Rattle.std.specs.Prelude.{◌≡◌, ℕ, zero, suc, Bool, true, false, Option, Some, None, MatchOption, List, [], ◌∷◌, ◌++◌, length, Ok, Err, Result}
use denote.Enum.Bare.{sameb}
use denote.Ref.{Bor}
use Rattle.easl_model.specs.{is_literal, word_of}
use Rattle.easl_model.specs.contracts.token.Key.{the_type as the_keys}
use Rattle.easl_model.specs.contracts.token.Mark.{the_type as the_marks}
use Rattle.easl_model.specs.declared.place.Place.{Place}
use Rattle.easl_model.specs.declared.token.Key.{Key}
use Rattle.easl_model.specs.declared.token.Kind.{Kind}
use Rattle.easl_model.specs.declared.token.Kind.TheVariants as kind
use Rattle.easl_model.specs.declared.token.Mark.{Mark}
use Rattle.easl_model.specs.declared.token.Mark.TheVariants as mark
use Rattle.easl_model.specs.declared.token.Token.{Token}
use Rattle.easl_model.specs.declared.tree.Word.{Word}
use Rattle.cv_read.specs.declared.fault.ReadFault.{ReadFault}
use Rattle.cv_read.specs.declared.fault.ReadFault.TheVariants.{Nesting, Syntax, Memory}

pub data Read (A : Type 0) : Type 0 where
  Got : A → List Token → Read A
  Stuck : ℕ → Read A
  Deep : Read A

abbrev pub Fails : {A : Type 0} → ReadFault → Read A → Type 0
Fails Memory r = Unit {0}
Fails (Syntax left) r = r ≡ Stuck left
Fails (Nesting left) r = r ≡ Deep

-- the answer is this reading, unless memory ran out: a value and what is left
abbrev pub Gives : {A : Type 0} → Result (A × Bor (List Token)) ReadFault → Read A → Type 0
Gives (Ok x) r = r ≡ Got x.0 x.1.now
Gives (Err e) r = Fails e r

-- the same where the value is nothing
abbrev pub GivesRest : Result (Bor (List Token)) ReadFault → Read (Unit {0}) → Type 0
GivesRest (Ok rest) r = r ≡ Got tt rest.now
GivesRest (Err e) r = Fails e r

-- the same of a whole text
abbrev pub GivesWhole : {A : Type 0} → Result A ReadFault → Read A → Type 0
GivesWhole (Ok x) r = r ≡ Got x []
GivesWhole (Err e) r = Fails e r

infixl 10 ◌>>=◌
-- one reading after another
abbrev pub ◌>>=◌ : {A B : Type 0} → Read A → (A → List Token → Read B) → Read B
(Got x us) >>= f = f x us
(Stuck n) >>= f = Stuck n
Deep >>= f = Deep

-- one way or the other
abbrev pub pick : {A : Type 0} → Bool → A → A → A
pick true x y = x
pick false x y = y

-- whether the first token is of one of these kinds
abbrev pub begins : (Kind → Bool) → List Token → Bool
begins p [] = false
begins p (t ∷ ts) = p t.kind

-- the first token is of this kind, and the rest stands behind it
abbrev pub FirstIs : Kind → List Token → List Token → Type 0
FirstIs k rest [] = ⊥
FirstIs k rest (t ∷ ts) = (t.kind ≡ k) × (ts ≡ rest)

-- one token of one of these kinds, and its value
abbrev pub take_at : {A : Type 0} → (Kind → Bool) → (Token → A) → List Token → Read A
take_at p value [] = Stuck 0
take_at p value (t ∷ ts) = pick (p t.kind) (Got (value t) ts) (Stuck (length (t ∷ ts)))

abbrev pub nothing_of : Token → Unit {0}
nothing_of t = tt

-- such a token where it is the first, and else none
abbrev pub Finds : {A : Type 0} → (Kind → Bool) → (Token → A) → List Token → Option (A × Bor (List Token)) → Type 0
Finds p value ts r = MatchOption r
    ((begins p ts ≡ false) × (take_at p value ts ≡ Stuck (length ts)))
    (λ x. (begins p ts ≡ true) × (take_at p value ts ≡ Got x.0 x.1.now))

-- the same where the value is nothing
abbrev pub FindsRest : (Kind → Bool) → List Token → Option (Bor (List Token)) → Type 0
FindsRest p ts r = MatchOption r
    ((begins p ts ≡ false) × (take_at p nothing_of ts ≡ Stuck (length ts)))
    (λ rest. (begins p ts ≡ true) × (take_at p nothing_of ts ≡ Got tt rest.now))

-- one way or the other by the first token
abbrev pub choose : {A : Type 0} → (Kind → Bool) → (List Token → Read A) → (List Token → Read A) → List Token → Read A
choose p r s ts = pick (begins p ts) (r ts) (s ts)

abbrev pub is_mark : Mark → Kind → Bool
is_mark m (kind.Mark n) = sameb the_marks n m
is_mark m k = false

abbrev pub is_key : Key → Kind → Bool
is_key m (kind.Key n) = sameb the_keys n m
is_key m k = false

abbrev pub is_name : Kind → Bool
is_name kind.Name = true
is_name k = false

abbrev pub place_of : Token → Place
place_of t = t.place

abbrev pub mark_at : Mark → List Token → Read (Unit {0})
mark_at m = take_at (is_mark m) nothing_of

abbrev pub key_at : Key → List Token → Read (Unit {0})
key_at k = take_at (is_key k) nothing_of

-- a mark's place, and a keyword's
abbrev pub mark_place_at : Mark → List Token → Read Place
mark_place_at m = take_at (is_mark m) place_of

abbrev pub key_place_at : Key → List Token → Read Place
key_place_at k = take_at (is_key k) place_of

abbrev pub name_at : List ℕ → List Token → Read Word
name_at text = take_at is_name (word_of text)

abbrev pub literal_at : List ℕ → List Token → Read Word
literal_at text = take_at is_literal (word_of text)

-- a mark or a keyword and then this
abbrev pub behind_mark : {A : Type 0} → Mark → (List Token → Read A) → List Token → Read A
behind_mark m r ts = mark_at m ts >>= λ _ us. r us

abbrev pub behind_key : {A : Type 0} → Key → (List Token → Read A) → List Token → Read A
behind_key k r ts = key_at k ts >>= λ _ us. r us

-- this and then a mark
abbrev pub before_mark : {A : Type 0} → Mark → (List Token → Read A) → List Token → Read A
before_mark m r ts = r ts >>= λ x us. mark_at m us >>= λ _ vs. Got x vs

-- an item where it begins with one of these kinds, else none
abbrev pub step_at : {A : Type 0} → (Kind → Bool) → (List Token → Read A) → List Token → Read (Option A)
step_at p item = choose p (λ ts. item ts >>= λ x us. Got (Some x) us) (λ ts. Got None ts)

abbrev pub put_front : {A : Type 0} → List A → Read (List A) → Read (List A)
put_front front (Got xs us) = Got (front ++ xs) us
put_front front (Stuck n) = Stuck n
put_front front Deep = Deep

-- items one after another until a step has none, in fewer than so many steps
abbrev pub then_more : {A : Type 0} → (List Token → Read (List A)) → Read (Option A) → Read (List A)
then_more more (Got None us) = Got [] us
then_more more (Got (Some x) us) = put_front (x ∷ []) (more us)
then_more more (Stuck left) = Stuck left
then_more more Deep = Deep

abbrev pub many_at : {A : Type 0} → (List Token → Read (Option A)) → ℕ → List Token → Read (List A)
many_at step zero ts = Deep
many_at step (suc n) ts = then_more (many_at step n) (step ts)

-- each item takes a token or more, so there are no more items than tokens
unfoldable pub items_at : {A : Type 0} → (List Token → Read (Option A)) → List Token → Read (List A)
items_at step ts = many_at step (suc (length ts)) ts

-- nothing may be left
abbrev pub done_at : {A : Type 0} → A → List Token → Read A
done_at x [] = Got x []
done_at x (t ∷ ts) = Stuck (length (t ∷ ts))

abbrev pub whole_at : {A : Type 0} → (List Token → Read A) → List Token → Read A
whole_at r ts = r ts >>= λ x us. done_at x us

-- ("," item)?
abbrev pub next_at : {A : Type 0} → (List Token → Read A) → List Token → Read (Option A)
next_at item = step_at (is_mark mark.Comma) (behind_mark mark.Comma item)

-- ("," item)*
abbrev pub more_at : {A : Type 0} → (List Token → Read A) → List Token → Read (List A)
more_at item = items_at (next_at item)

-- item ("," item)*
abbrev pub commas_at : {A : Type 0} → (List Token → Read A) → List Token → Read (List A)
commas_at item ts = item ts >>= λ x us. more_at item us >>= λ xs vs. Got (x ∷ xs) vs

-- the same or nothing, where an item begins with one of these kinds
abbrev pub listed_at : {A : Type 0} → (Kind → Bool) → (List Token → Read A) → List Token → Read (List A)
listed_at p item = choose p (commas_at item) (λ ts. Got [] ts)

-- "(" listed ")"
abbrev pub parens_at : {A : Type 0} → (List Token → Read A) → List Token → Read A
parens_at r = behind_mark mark.Open (before_mark mark.Close r)
