-- Codes of one name are one code.
use Rattle.std.proofs.Common.{◌≡◌, ◌∙◌, ℕ, zero, suc, ◌+◌, ◌*◌, ◌/◌, ◌%◌, ◌<◌, ap, arith, refl, sym}
use Rattle.client_model.specs.Codes.{Name, Result, Slot, Static, Variable, name_by, name_of}

abbrev code_of : Name → ℕ
code_of (Static k) = 4 * k
code_of (Variable j) = 4 * j + 1
code_of (Slot j) = 4 * j + 2
code_of (Result j) = 4 * j + 3

of_kind : (kind number : ℕ) → kind < 4 → code_of (name_by kind number) ≡ 4 * number + kind
of_kind zero number h = omega arith
of_kind (suc zero) number h = refl
of_kind (suc (suc zero)) number h = refl
of_kind (suc (suc (suc zero))) number h = refl
of_kind (suc (suc (suc (suc kind)))) number h = absurd (omega arith)

code_of-name : (code : ℕ) → code_of (name_of code) ≡ code
code_of-name code =
    let small : code % 4 < 4 = omega arith in
    let whole : 4 * (code / 4) + code % 4 ≡ code = omega arith in
    of_kind (code % 4) (code / 4) small ∙ whole

pub name_once : (x y : ℕ) → name_of x ≡ name_of y → x ≡ y
name_once x y is = sym (code_of-name x) ∙ ap code_of is ∙ code_of-name y
