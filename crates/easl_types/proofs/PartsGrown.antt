-- The parts of a checked form, class by class.
use Rattle.std.proofs.Common.{◌≡◌, ℕ, suc, ◌+◌, List, [], ◌∷◌, ◌++◌, length, map, arith, refl, ap, sym, ◌∙◌, length-append}
use Rattle.std.proofs.lemmas.List.{append_assoc, length-map, map-append}
use Rattle.easl_model.specs.{Body, bodies_from, bodies_in, classes_from, constructor_body, method_body, method_of, methods_in}
use Rattle.easl_model.specs.declared.form.ClassForm.{ClassForm}
use Rattle.easl_model.specs.declared.form.Method.{Method}
use Rattle.easl_model.specs.declared.place.Place.{Place}
use Rattle.easl_model.specs.declared.tree.Class.{Class}
use Rattle.easl_model.specs.declared.tree.Code.{Code}
use Rattle.easl_model.specs.declared.tree.Spec.{Spec}
use Rattle.easl_types.specs.Forms.{class_form}

-- what all bodies give, where those of one more class are added
grown : {A : Type 0} (f : Body → A) (k : ℕ) (c : Class) (rest : List Class) (xs ys all : List A) → ys ≡ xs ++ map f (bodies_in k c)
    → xs ++ map f (bodies_from k (c ∷ rest)) ≡ all → ys ++ map f (bodies_from (k + 1) rest) ≡ all
grown f k c rest xs ys all is left =
    let number : k + 1 ≡ suc k = omega arith in
    ap (λ zs. zs ++ map f (bodies_from (k + 1) rest)) is
    ∙ ap (λ n. (xs ++ map f (bodies_in k c)) ++ map f (bodies_from n rest)) number
    ∙ append_assoc xs (map f (bodies_in k c)) (map f (bodies_from (suc k) rest))
    ∙ ap (λ zs. xs ++ zs) (sym (map-append f (bodies_in k c) (bodies_from (suc k) rest)))
    ∙ left

pub methods_grown : (spec : Spec) (k : ℕ) (c : Class) (rest : List Class) (methods more all : List Method) → more ≡ methods ++ map (method_of spec) (bodies_in k c)
    → methods ++ map (method_of spec) (bodies_from k (c ∷ rest)) ≡ all → more ++ map (method_of spec) (bodies_from (k + 1) rest) ≡ all
methods_grown spec = grown (method_of spec)

abbrev place_of : Body → Place
place_of b = b.code.name.place

-- the places of methods do not depend on their class
same_places : (k : ℕ) (codes : List Code) → map place_of (map (method_body 0) codes) ≡ map place_of (map (method_body k) codes)
same_places k [] = refl
same_places k (code ∷ codes) = ap (λ ps. code.name.place ∷ ps) (same_places k codes)

pub places_grown : (k : ℕ) (c : Class) (rest : List Class) (places more all : List Place) → more ≡ places ++ map (λ (b : Body). b.code.name.place) (bodies_in 0 c)
    → places ++ map (λ (b : Body). b.code.name.place) (bodies_from k (c ∷ rest)) ≡ all → more ++ map (λ (b : Body). b.code.name.place) (bodies_from (k + 1) rest) ≡ all
places_grown k c rest places more all is left =
    grown place_of k c rest places more all (is ∙ ap (λ ps. places ++ (constructor_body 0 c).code.name.place ∷ ps) (same_places k (methods_in c.members))) left

pub classes_grown : (spec : Spec) (k : ℕ) (c : Class) (rest : List Class) (methods more : List Method) (classes others all : List ClassForm)
    → more ≡ methods ++ map (method_of spec) (bodies_in k c) → others ≡ classes ++ class_form spec (length methods) c ∷ []
    → classes ++ classes_from spec (length methods) (c ∷ rest) ≡ all → others ++ classes_from spec (length more) rest ≡ all
classes_grown spec k c rest methods more classes others all grown is left =
    let many : length more ≡ length methods + length (bodies_in 0 c) = omega (
      arith,
      ap length grown,
      length-append methods (map (method_of spec) (bodies_in k c)),
      length-map (bodies_in k c) (method_of spec),
      length-map (methods_in c.members) (method_body k),
      length-map (methods_in c.members) (method_body 0),
    ) in
    ap (λ cs. cs ++ classes_from spec (length more) rest) is
    ∙ ap (λ n. (classes ++ class_form spec (length methods) c ∷ []) ++ classes_from spec n rest) many
    ∙ append_assoc classes (class_form spec (length methods) c ∷ []) (classes_from spec (length methods + length (bodies_in 0 c)) rest)
    ∙ left
