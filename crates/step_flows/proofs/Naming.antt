-- The names that may stand at a position, by kinds.
use Rattle.std.proofs.Common.{ℕ, zero, suc, ◌+◌, ◌*◌, ◌/◌, ◌%◌, ◌<◌, ◌≡◌, ◌⊎◌, inl, inr, ⊎_elim, Some, List, [], ◌∷◌, All, Contains, slice_get, refl}
use Rattle.std.proofs.Common.{sym, subst, arith}
use Rattle.std.proofs.lemmas.List.Elements.{All-contains}
use Rattle.client_facts.specs.NameLists.{AreNamesOf, NameLists, statics_with, variables_with}
use Rattle.client_facts.specs.Names.{IsNameAt, MayStand}
use Rattle.client_facts.specs.Setting.{Setting, variables_of}
use Rattle.client_model.specs.Codes.{Name, Result, Slot, Static, Variable, name_by, name_of, static_code, variable_code}

-- the code of a name
abbrev IsCodeOf : ℕ → Name → Type 0
IsCodeOf code (Static k) = code ≡ static_code k
IsCodeOf code (Variable j) = code ≡ variable_code j
IsCodeOf code (Slot j) = code ≡ 4 * j + 2
IsCodeOf code (Result j) = code ≡ 4 * j + 3

by_kind : (r q code : ℕ) → code ≡ 4 * q + r → r < 4 → IsCodeOf code (name_by r q)
by_kind zero q code e l = omega arith
by_kind (suc zero) q code e l = omega arith
by_kind (suc (suc zero)) q code e l = omega arith
by_kind (suc (suc (suc zero))) q code e l = omega arith
by_kind (suc (suc (suc (suc r)))) q code e l = absurd (omega arith)

code_of_name : (code : ℕ) → IsCodeOf code (name_of code)
code_of_name code = by_kind (code % 4) (code / 4) code (omega arith) (omega arith)

-- the codes of the slots and of the result
abbrev pub hidden : List ℕ
hidden = 2 ∷ 6 ∷ 10 ∷ 3 ∷ []

slot_there : (code j : ℕ) → code ≡ 4 * j + 2 → j < 3 → Contains hidden code
slot_there code zero e l = (0, omega arith, sym e)
slot_there code (suc zero) e l = (1, omega arith, sym e)
slot_there code (suc (suc zero)) e l = (2, omega arith, sym e)
slot_there code (suc (suc (suc j))) e l = absurd (omega arith)

result_there : (code j : ℕ) → code ≡ 4 * j + 3 → j ≡ 0 → Contains hidden code
result_there code j e z = (3, omega arith, omega arith)

-- a static of the class, a variable of the class, or one of those
pub standing_cases : (g : Setting) (p m class : ℕ) (statics variables : List ℕ)
    → ((k : ℕ) → slice_get g.client.statics k ≡ Some (Some class) → Contains statics (static_code k))
    → ((j : ℕ) → slice_get (variables_of g p) j ≡ Some (Some class) → Contains variables (variable_code j))
    → (code : ℕ) → IsNameAt g p m class code → Contains statics code ⊎ (Contains variables code ⊎ Contains hidden code)
standing_cases g p m class statics variables s v code h = cases (name_of code) (code_of_name code) h
  where
    cases : (n : Name) → IsCodeOf code n → MayStand g p m class code n → Contains statics code ⊎ (Contains variables code ⊎ Contains hidden code)
    cases (Static k) e w = inl (subst (Contains statics) (sym e) (s k w.0))
    cases (Variable j) e w = inr (inl (subst (Contains variables) (sym e) (v j w.0)))
    cases (Slot j) e w = inr (inr (slot_there code j e w))
    cases (Result j) e w = inr (inr (result_there code j e w.0))

-- a list with all of those has all names that may stand
pub all_standing : (g : Setting) (p m class : ℕ) (names : NameLists) (statics variables first second all : List ℕ) → AreNamesOf g names
    → statics ≡ statics_with names class → variables ≡ variables_with names p class
    → All (λ code. IsNameAt g p m class code → Contains first code) statics
    → ((a : ℕ) → Contains first a → Contains second a) → All (λ code. IsNameAt g p m class code → Contains second code) variables
    → ((a : ℕ) → Contains second a → Contains all a) → All (λ code. IsNameAt g p m class code → Contains all code) hidden
    → (code : ℕ) → IsNameAt g p m class code → Contains all code
all_standing g p m class names statics variables first second all are s_is v_is s kept v more h code w =
    ⊎_elim
    (λ x. more code (kept code (All-contains (λ a. IsNameAt g p m class a → Contains first a) statics code s x w)))
    (λ y. ⊎_elim
    (λ x. more code (All-contains (λ a. IsNameAt g p m class a → Contains second a) variables code v x w))
    (λ x. All-contains (λ a. IsNameAt g p m class a → Contains all a) hidden code h x w)
    y)
    (standing_cases g p m class statics variables
    (λ k e. (let P : List ℕ → Type 0 = λ xs. Contains xs (static_code k) in subst P (sym s_is)
    ((are.statics class).all (static_code k) (record { number = k; known = e; is = refl }))))
    (λ j e. (let P : List ℕ → Type 0 = λ xs. Contains xs (variable_code j) in subst P (sym v_is)
    ((are.variables p class).all (variable_code j) (record { number = j; known = e; is = refl }))))
    code w)
