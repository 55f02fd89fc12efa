-- How lists of written tokens are split.
use Rattle.std.proofs.Common.{◌≡◌, ℕ, List, [], ◌∷◌, ◌++◌, refl, ap}
use Rattle.std.specs.List.{AllByRecursion}
use Rattle.easl_model.specs.declared.token.Token.{Token}
use Rattle.cv_layout.specs.{AreOf, IsOf, Lexeme}

pub all_front : {A : Type 0} (P : A → Type 0) (xs ys : List A) → AllByRecursion P (xs ++ ys) → AllByRecursion P xs
all_front P [] ys a = tt
all_front P (x ∷ xs) ys a = (a.0, all_front P xs ys a.1)

pub all_back : {A : Type 0} (P : A → Type 0) (xs ys : List A) → AllByRecursion P (xs ++ ys) → AllByRecursion P ys
all_back P [] ys a = a
all_back P (x ∷ xs) ys a = all_back P xs ys a.1

pub all_both : {A : Type 0} (P : A → Type 0) (xs ys : List A) → AllByRecursion P xs → AllByRecursion P ys → AllByRecursion P (xs ++ ys)
all_both P [] ys a b = b
all_both P (x ∷ xs) ys a b = (a.0, all_both P xs ys a.1 b)

-- tokens that are written like two lists one behind the other
abbrev pub Split : List ℕ → List Token → List Lexeme → List Lexeme → Type 0
Split text ts xs ys = (us vs : List Token) × (ts ≡ us ++ vs) × AreOf text us xs × AreOf text vs ys

pub split : (text : List ℕ) (ts : List Token) (xs ys : List Lexeme) → AreOf text ts (xs ++ ys) → Split text ts xs ys
split text ts [] ys a = ([], ts, refl, tt, a)
split text [] (x ∷ xs) ys a = absurd a
split text (t ∷ ts) (x ∷ xs) ys a =
    let r = split text ts xs ys a.1 in
    (t ∷ r.0, r.1, ap (λ m. t ∷ m) r.2, (a.0, r.3), r.4)

-- the first of them
abbrev pub Headed : List ℕ → List Token → Lexeme → List Lexeme → Type 0
Headed text ts x xs = (t : Token) × (us : List Token) × (ts ≡ t ∷ us) × IsOf text t x × AreOf text us xs

pub headed : (text : List ℕ) (ts : List Token) (x : Lexeme) (xs : List Lexeme) → AreOf text ts (x ∷ xs) → Headed text ts x xs
headed text [] x xs a = absurd a
headed text (t ∷ ts) x xs a = (t, ts, refl, a.0, a.1)

pub ending : (text : List ℕ) (ts : List Token) → AreOf text ts [] → ts ≡ []
ending text [] a = refl
ending text (t ∷ ts) a = absurd a

-- one token alone
pub alone : (text : List ℕ) (ts : List Token) (x : Lexeme) (h : AreOf text ts (x ∷ [])) → (headed text ts x [] h).1 ≡ []
alone text ts x h = let t = headed text ts x [] h in ending text t.1 t.4
