-- What a fault of one name leaves of the entries of a shelf in memory.
use Rattle.std.proofs.Common.{◌≡◌, ◌≢◌, ◌∙◌, sym, ℕ, ◌<◌, ◌≤◌, List, [], ◌∷◌, ◌++◌, length, get_or, set, take, drop, true, IsSome, arith}
use Rattle.std.specs.Cmp.Lexicographic.{same_text}
use Rattle.std.proofs.lemmas.List.{set_split}
use Rattle.std.proofs.lemmas.Grind.{common_steps}
use Rattle.cv_base.specs.declared.mem_shelf.Held.{Held}
use Rattle.cv_base.specs.Causes.{next_count, last_count, Rose}
use Rattle.cv_base.specs.Memory.{is_named, raised, missing_after, text_under, count_under}

-- at the first entry of the name, the count of that entry alone is raised
pub raised_at : (entries : List Held) (name : List ℕ) (i : ℕ) (found : Held)
    → i < length entries → found ≡ get_or entries i found → is_named name found ≡ true
    → take i entries ++ raised (drop i entries) name ≡ raised entries name
    → set entries i (record found { faults = next_count found.faults }) ≡ raised entries name
raised_at entries name i found within is named so_far = grind (arith, common_steps, set_split)

-- what is held stays
pub text_under-raised : (entries : List Held) (name other : List ℕ) → text_under (raised entries name) other ≡ text_under entries other
text_under-raised [] name other = grind arith
text_under-raised (h ∷ hs) name other = grind (arith, text_under-raised hs name other)

-- the name's count rises
pub Rose-count_under : (entries : List Held) (missing : ℕ) (name : List ℕ)
    → Rose (count_under entries missing name) (count_under (raised entries name) (missing_after entries missing name) name)
Rose-count_under [] missing name = grind arith
Rose-count_under (h ∷ hs) missing name = grind (arith, Rose-count_under hs missing name)

-- no count falls
pub count_under_later : (entries : List Held) (missing : ℕ) (name other : List ℕ)
    → count_under entries missing name ≤ last_count
    → count_under entries missing other ≤ count_under (raised entries name) (missing_after entries missing name) other
count_under_later [] missing name other within = grind arith
count_under_later (h ∷ hs) missing name other within = grind (arith, count_under_later hs missing name other)

-- an entry has one name
one_name : (h : Held) (name other : List ℕ) → is_named name h ≡ true → is_named other h ≡ true → other ≡ name
one_name h name other named also = sym (same_text h.name other (sym also)) ∙ same_text h.name name (sym named)

-- another name that has an entry keeps its count
pub count_under_others : (entries : List Held) (missing : ℕ) (name other : List ℕ)
    → IsSome (text_under entries other) → other ≢ name
    → count_under (raised entries name) (missing_after entries missing name) other ≡ count_under entries missing other
count_under_others [] missing name other told different = grind arith
count_under_others (h ∷ hs) missing name other told different =
    let rest : IsSome (text_under hs other) → count_under (raised hs name) (missing_after hs missing name) other ≡ count_under hs missing other =
    (λ found. count_under_others hs missing name other found different) in
    grind (arith, one_name h name other, rest)
