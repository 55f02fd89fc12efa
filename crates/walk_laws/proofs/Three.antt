-- Lists side by side.
use Rattle.std.proofs.Common.{◌≡◌, ℕ, List, [], ◌∷◌, refl}
use Rattle.std.specs.List.{AllZip}
use Rattle.client_facts.specs.Calls.{AllThree}
use Rattle.client_facts.specs.Facts.{objects_by}

pub zip_all : (P Q : ℕ → ℕ → Type 0) → ((x y : ℕ) → P x y → Q x y) → (xs ys : List ℕ) → AllZip P xs ys → AllZip Q xs ys
zip_all P Q f [] [] h = tt
zip_all P Q f [] (y ∷ ys) h = absurd h
zip_all P Q f (x ∷ xs) [] h = absurd h
zip_all P Q f (x ∷ xs) (y ∷ ys) h = (f x y h.0, zip_all P Q f xs ys h.1)

pub zip_both : (P Q : ℕ → ℕ → Type 0) (xs ys : List ℕ) → AllZip P xs ys → AllZip Q xs ys → AllZip (λ x y. P x y × Q x y) xs ys
zip_both P Q [] [] h k = tt
zip_both P Q [] (y ∷ ys) h k = absurd h
zip_both P Q (x ∷ xs) [] h k = absurd h
zip_both P Q (x ∷ xs) (y ∷ ys) h k = ((h.0, k.0), zip_both P Q xs ys h.1 k.1)

-- where each pair has a third, there is a third list
pub three_chosen : (R : ℕ → ℕ → ℕ → Type 0) (P : ℕ → ℕ → Type 0) → ((x y : ℕ) → P x y → (z : ℕ) × R x y z) → (xs ys : List ℕ) → AllZip P xs ys →
    (zs : List ℕ) × AllThree R xs ys zs
three_chosen R P f [] [] h = ([], tt)
three_chosen R P f [] (y ∷ ys) h = absurd h
three_chosen R P f (x ∷ xs) [] h = absurd h
three_chosen R P f (x ∷ xs) (y ∷ ys) h =
    let one = f x y h.0 in
    let rest = three_chosen R P f xs ys h.1 in
    (one.0 ∷ rest.0, (one.1, rest.1))

pub three_swap : (R : ℕ → ℕ → ℕ → Type 0) (xs ys zs : List ℕ) → AllThree R xs ys zs → AllThree (λ x z y. R x y z) xs zs ys
three_swap R [] [] [] h = tt
three_swap R [] [] (z ∷ zs) h = absurd h
three_swap R [] (y ∷ ys) [] h = absurd h
three_swap R [] (y ∷ ys) (z ∷ zs) h = absurd h
three_swap R (x ∷ xs) [] [] h = absurd h
three_swap R (x ∷ xs) [] (z ∷ zs) h = absurd h
three_swap R (x ∷ xs) (y ∷ ys) [] h = absurd h
three_swap R (x ∷ xs) (y ∷ ys) (z ∷ zs) h = (h.0, three_swap R xs ys zs h.1)

pub three_all : (R S : ℕ → ℕ → ℕ → Type 0) → ((x y z : ℕ) → R x y z → S x y z) → (xs ys zs : List ℕ) → AllThree R xs ys zs → AllThree S xs ys zs
three_all R S f [] [] [] h = tt
three_all R S f [] [] (z ∷ zs) h = absurd h
three_all R S f [] (y ∷ ys) [] h = absurd h
three_all R S f [] (y ∷ ys) (z ∷ zs) h = absurd h
three_all R S f (x ∷ xs) [] [] h = absurd h
three_all R S f (x ∷ xs) [] (z ∷ zs) h = absurd h
three_all R S f (x ∷ xs) (y ∷ ys) [] h = absurd h
three_all R S f (x ∷ xs) (y ∷ ys) (z ∷ zs) h = (f x y z h.0, three_all R S f xs ys zs h.1)

-- what is known of the first and second lists
pub three_left : (R : ℕ → ℕ → ℕ → Type 0) (P : ℕ → ℕ → Type 0) (xs ys zs : List ℕ) → AllThree R xs ys zs → AllZip P xs ys →
    AllThree (λ x y z. R x y z × P x y) xs ys zs
three_left R P [] [] [] h p = tt
three_left R P [] [] (z ∷ zs) h p = absurd h
three_left R P [] (y ∷ ys) [] h p = absurd h
three_left R P [] (y ∷ ys) (z ∷ zs) h p = absurd h
three_left R P (x ∷ xs) [] [] h p = absurd h
three_left R P (x ∷ xs) [] (z ∷ zs) h p = absurd h
three_left R P (x ∷ xs) (y ∷ ys) [] h p = absurd h
three_left R P (x ∷ xs) (y ∷ ys) (z ∷ zs) h p = ((h.0, p.0), three_left R P xs ys zs h.1 p.1)

-- what is known of the first and third lists
pub three_right : (R : ℕ → ℕ → ℕ → Type 0) (P : ℕ → ℕ → Type 0) (xs ys zs : List ℕ) → AllThree R xs ys zs → AllZip P xs zs →
    AllThree (λ x y z. R x y z × P x z) xs ys zs
three_right R P xs ys zs h p = three_swap (λ x z y. R x y z × P x z) xs zs ys (three_left (λ x z y. R x y z) P xs zs ys (three_swap R xs ys zs h) p)

pub right_of : (R : ℕ → ℕ → ℕ → Type 0) (P : ℕ → ℕ → Type 0) → ((x y z : ℕ) → R x y z → P x z) → (xs ys zs : List ℕ) → AllThree R xs ys zs → AllZip P xs zs
right_of R P f [] [] [] h = tt
right_of R P f [] [] (z ∷ zs) h = absurd h
right_of R P f [] (y ∷ ys) [] h = absurd h
right_of R P f [] (y ∷ ys) (z ∷ zs) h = absurd h
right_of R P f (x ∷ xs) [] [] h = absurd h
right_of R P f (x ∷ xs) [] (z ∷ zs) h = absurd h
right_of R P f (x ∷ xs) (y ∷ ys) [] h = absurd h
right_of R P f (x ∷ xs) (y ∷ ys) (z ∷ zs) h = (f x y z h.0, right_of R P f xs ys zs h.1)

pub three_objects : (R : ℕ → ℕ → ℕ → Type 0) (one other : ℕ → ℕ → ℕ) → ((x y z : ℕ) → R x y z → one x y ≡ other x z) → (xs ys zs : List ℕ) →
    AllThree R xs ys zs → objects_by one xs ys ≡ objects_by other xs zs
three_objects R one other f [] [] [] h = refl
three_objects R one other f [] [] (z ∷ zs) h = absurd h
three_objects R one other f [] (y ∷ ys) [] h = absurd h
three_objects R one other f [] (y ∷ ys) (z ∷ zs) h = absurd h
three_objects R one other f (x ∷ xs) [] [] h = absurd h
three_objects R one other f (x ∷ xs) [] (z ∷ zs) h = absurd h
three_objects R one other f (x ∷ xs) (y ∷ ys) [] h = absurd h
three_objects R one other f (x ∷ xs) (y ∷ ys) (z ∷ zs) h = λ i. f x y z h.0 i ∷ three_objects R one other f xs ys zs h.1 i
