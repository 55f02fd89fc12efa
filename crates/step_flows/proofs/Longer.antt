-- Name lists that grow by one name at a time.
use Rattle.std.proofs.Common.{ℕ, ◌+◌, ◌<◌, ◌≤◌, ◌≡◌, Option, List, [], ◌∷◌, ◌++◌, All, Contains, length, get_or, take, ap, sym, subst, ◌∙◌, arith}
use Rattle.std.proofs.lemmas.List.{take_all, take_more}
use Rattle.std.proofs.lemmas.List.Elements.{All-contains, All-more, All-same, All-weaker, Contains-append_left, Contains-push}
use Rattle.client_facts.specs.Flows.{copied}
use Rattle.step_flows.proofs.Copying.{copied-at, length-copied}

-- the lists with each of the names behind this one are there
abbrev pub Has : List (List ℕ) → List ℕ → List ℕ → Type 0
Has lists front codes = All (λ code. Contains lists (front ++ code ∷ [])) codes

pub kept-push : (start items new : List (List ℕ)) (x : List ℕ) → new ≡ items ++ x ∷ [] → ((a : List ℕ) → Contains start a → Contains items a) → (a : List ℕ)
    → Contains start a → Contains new a
kept-push start items new x e kept a h =
    let P : List (List ℕ) → Type 0 = λ v. Contains v a in
    subst P (sym e) (Contains-append_left items (x ∷ []) a (kept a h))

pub Has-push : (items new : List (List ℕ)) (front codes x : List ℕ) (i : ℕ) → i < length codes → new ≡ items ++ x ∷ [] → x ≡ front ++ get_or codes i 0 ∷ []
    → Has items front (take i codes) → Has new front (take (i + 1) codes)
Has-push items new front codes x i l e is h =
    let P : List (List ℕ) → Type 0 = λ v. Contains v x in
    let Q : List ℕ → Type 0 = λ v. Contains new v in
    let here : Contains new x = subst P (sym e) (Contains-push items x) in
    let old : Has new front (take i codes) =
    All-weaker (λ code. Contains items (front ++ code ∷ [])) (λ code. Contains new (front ++ code ∷ []))
    (λ code a. kept-push items items new x e (λ b m. m) (front ++ code ∷ []) a) (take i codes) h
    in All-more (λ code. Contains new (front ++ code ∷ [])) codes i 0 l old (subst Q is here)

pub Has-all : (items : List (List ℕ)) (front codes : List ℕ) (i : ℕ) → length codes ≤ i → Has items front (take i codes) → Has items front codes
Has-all items front codes i l h = All-same (λ code. Contains items (front ++ code ∷ [])) codes (take i codes) (sym (take_all i codes l)) h

pub lengthened-more : (items new fronts : List (List ℕ)) (codes front : List ℕ) (i : ℕ) → i < length fronts → front ≡ get_or fronts i front
    → ((a : List ℕ) → Contains items a → Contains new a) → All (λ args. Has items args codes) (take i fronts) → Has new front codes
    → All (λ args. Has new args codes) (take (i + 1) fronts)
lengthened-more items new fronts codes front i l is kept h here =
    let P : List ℕ → Type 0 = λ args. Has new args codes in
    let old : All (λ args. Has new args codes) (take i fronts) =
    All-weaker (λ args. Has items args codes) (λ args. Has new args codes)
    (λ args. All-weaker (λ code. Contains items (args ++ code ∷ [])) (λ code. Contains new (args ++ code ∷ [])) (λ code. kept (args ++ code ∷ [])) codes)
    (take i fronts) h
    in All-more (λ args. Has new args codes) fronts i front l old (subst P is here)

pub lengthened-all : (items fronts : List (List ℕ)) (codes : List ℕ) (i : ℕ) → length fronts ≤ i → All (λ args. Has items args codes) (take i fronts)
    → All (λ args. Has items args codes) fronts
lengthened-all items fronts codes i l h = All-same (λ args. Has items args codes) fronts (take i fronts) (sym (take_all i fronts l)) h

-- a front that is there, with its next name among those that may stand there
pub front-more : (lists new : List (List ℕ)) (names args : List ℕ) (i : ℕ) → i < length args → All (λ front. Has new front names) lists
    → Contains lists (take i args) → Contains names (get_or args i 0)
    → Contains new (take (i + 1) args)
front-more lists new names args i l all there named =
    let P : List ℕ → Type 0 = λ v. Contains new v in
    let each = All-contains (λ front. Has new front names) lists (take i args) all there in
    subst P (sym (take_more args i 0 l)) (All-contains (λ code. Contains new (take i args ++ code ∷ [])) names (get_or args i 0) each named)

pub copied_lists-more : (t s : Option ℕ) (before : List ℕ) (i : ℕ) (lists shown new : List (List ℕ)) (names told : List ℕ) → shown ≡ lists → told ≡ names
    → i < length before
    → ((args : List ℕ) → copied t s args ≡ before → Contains lists (take i args)) → All (λ front. Has new front told) shown
    → ((a : ℕ) → copied t s (a ∷ []) ≡ get_or before i 0 ∷ [] → Contains names a)
    → (args : List ℕ) → copied t s args ≡ before → Contains new (take (i + 1) args)
copied_lists-more t s before i lists shown new names told lists_are names_are l so_far all named args e =
    let P : List (List ℕ) → Type 0 = λ v. Contains v (take i args) in
    let Q : List ℕ → Type 0 = λ v. Contains v (get_or args i 0) in
    let long : length args ≡ length before = sym (length-copied t s args) ∙ ap length e in
    let within : i < length args = omega arith in
    front-more shown new told args i within all (subst P (sym lists_are) (so_far args e))
    (subst Q (sym names_are) (named (get_or args i 0) (copied-at t s args i within ∙ ap (λ xs. get_or xs i 0 ∷ []) e)))

pub copied_lists-all : (t s : Option ℕ) (before : List ℕ) (i : ℕ) (lists : List (List ℕ)) → length before ≤ i
    → ((args : List ℕ) → copied t s args ≡ before → Contains lists (take i args))
    → (args : List ℕ) → copied t s args ≡ before → Contains lists args
copied_lists-all t s before i lists l so_far args e =
    let long : length args ≡ length before = sym (length-copied t s args) ∙ ap length e in
    let P : List ℕ → Type 0 = λ v. Contains lists v in
    subst P (take_all i args (omega arith)) (so_far args e)
