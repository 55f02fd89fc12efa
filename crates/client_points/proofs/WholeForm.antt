-- The form of a whole client, and what bodies add to it.
use Rattle.std.proofs.Common.{◌≡◌, ◌∷◌, ◌++◌, [], List, ap, append_assoc, map, refl, sym, ◌∙◌}
use Rattle.std.proofs.lemmas.Grind.{flat_map-append}
use Rattle.std.proofs.lemmas.List.{append-nil, map-append}
use Rattle.std.proofs.lemmas.List.Elements.{filter_map-append}
use Rattle.std.specs.List.{cons_option, flat_map}
use Rattle.std.specs.Prelude.{filter_map}
use Rattle.client_model.specs.declared.form.Procedure.{Procedure}
use Rattle.client_points.specs.Wholes.{AreBodies, Whole, sets_by, sets_in, unset_seen, with_bodies, without_set}
use Rattle.client_points.specs.declared.whole.Bodies.{Bodies}
use Rattle.client_model.specs.Bodies.{Body, all_in, bodies_of}
use Rattle.client_model.specs.Checked.{procedure_seen, seen}
use Rattle.client_model.specs.CheckedForm.{ClientForm, ProcedureForm, form_by, form_of, in_start, start_form}
use Rattle.client_model.specs.Points.{point_of, site_at}
use Rattle.client_model.specs.Rules.{faults_of_bodies}
use Rattle.client_model.specs.Trees.{Client, Initialiser, Item, Procedure as ProcedureItem}
use Rattle.easl_model.specs.Form.{Form}

-- parts that are the same
whole_same : (v w : Whole) → v.initial ≡ w.initial → v.procedures ≡ w.procedures → v.calls ≡ w.calls → v ≡ w
whole_same v w initial procedures calls =
    ap (λ x. record v { initial = x }) initial
    ∙ ap (λ x. record v { initial = w.initial; procedures = x }) procedures
    ∙ ap (λ x. record w { calls = x }) calls

form_same : (v w : ClientForm) → v.statics ≡ w.statics → v.procedures ≡ w.procedures → v.calls ≡ w.calls → v ≡ w
form_same v w statics procedures calls =
    ap (λ x. record v { statics = x }) statics
    ∙ ap (λ x. record v { statics = w.statics; procedures = x }) procedures
    ∙ ap (λ x. record w { calls = x }) calls

-- some bodies, then others
pub both_bodies : (form : Form) (xs ys : List Body) (w : Whole) → with_bodies form (xs ++ ys) w ≡ with_bodies form ys (with_bodies form xs w)
both_bodies form xs ys w =
    let start = λ (b : Body). in_start b b.item in
    let made = λ (b : Body). form_by form b b.item in
    whole_same (with_bodies form (xs ++ ys) w) (with_bodies form ys (with_bodies form xs w))
    (ap (λ zs. w.initial ++ map point_of zs) (flat_map-append start xs ys)
    ∙ ap (λ zs. w.initial ++ zs) (map-append point_of (flat_map start xs) (flat_map start ys))
    ∙ sym (append_assoc w.initial (map point_of (flat_map start xs)) (map point_of (flat_map start ys))))
    (ap (λ zs. w.procedures ++ map without_set zs) (filter_map-append made xs ys)
    ∙ ap (λ zs. w.procedures ++ zs) (map-append without_set (filter_map made xs) (filter_map made ys))
    ∙ sym (append_assoc w.procedures (map without_set (filter_map made xs)) (map without_set (filter_map made ys))))
    (ap (λ zs. w.calls ++ filter_map site_at zs) (flat_map-append all_in xs ys)
    ∙ ap (λ zs. w.calls ++ zs) (filter_map-append site_at (flat_map all_in xs) (flat_map all_in ys))
    ∙ sym (append_assoc w.calls (filter_map site_at (flat_map all_in xs)) (filter_map site_at (flat_map all_in ys))))

pub no_bodies : (form : Form) (w : Whole) → with_bodies form [] w ≡ w
no_bodies form w = whole_same (with_bodies form [] w) w (append-nil w.initial) (append-nil w.procedures) (append-nil w.calls)

-- a procedure, by its form without the names that are set, and by these
one_seen : (p : Procedure) (x : ProcedureForm) → unset_seen p ≡ without_set x → p.set ≡ x.set → procedure_seen p ≡ x
one_seen p x bare set =
    ap (λ (y : ProcedureForm). record y { set = p.set }) bare ∙ ap (λ names. let y : ProcedureForm = record x { set = names } in y) set

all_seen : (ps : List Procedure) (xs : List ProcedureForm) → map unset_seen ps ≡ map without_set xs → map (λ p. p.set) ps ≡ map (λ x. x.set) xs
    → map procedure_seen ps ≡ xs
all_seen [] [] bare sets = refl
all_seen [] (x ∷ xs) bare sets = absurd cc
all_seen (p ∷ ps) [] bare sets = absurd cc
all_seen (p ∷ ps) (x ∷ xs) bare sets =
    let here : unset_seen p ≡ without_set x = cc in
    let rest : map unset_seen ps ≡ map without_set xs = cc in
    let set : p.set ≡ x.set = cc in
    let others : map (λ p. p.set) ps ≡ map (λ x. x.set) xs = cc in
    ap (λ y. y ∷ map procedure_seen ps) (one_seen p x here set) ∙ ap (λ ys. x ∷ ys) (all_seen ps xs rest others)

sets_made : (form : Form) (bs : List Body) → filter_map (λ b. sets_by b b.item) bs ≡ map (λ x. x.set) (filter_map (λ b. form_by form b b.item) bs)
sets_made form [] = refl
sets_made form (b ∷ bs) = one b.item (sets_made form bs)
  where
    one : (x : Item) → filter_map (λ b. sets_by b b.item) bs ≡ map (λ y. y.set) (filter_map (λ b. form_by form b b.item) bs)
        → cons_option (sets_by b x) (filter_map (λ b. sets_by b b.item) bs)
        ≡ map (λ y. y.set) (cons_option (form_by form b x) (filter_map (λ b. form_by form b b.item) bs))
    one (Initialiser x) rest = rest
    one (ProcedureItem p) rest = ap (λ sets. sets_in b ∷ sets) rest

-- the start, and then the procedures
pub parts_same : (form : Form) (client : Client) (b : Bodies) (start : Procedure) (all : List Procedure) → all ≡ (start ∷ []) ++ b.procedures
    → procedure_seen start ≡ start_form form client → AreBodies form client b → faults_of_bodies form client ≡ []
    → seen (record { statics = b.statics; procedures = all; calls = b.calls }) ≡ form_of form client
parts_same form client b start all is begins parts none =
    form_same (seen (record { statics = b.statics; procedures = all; calls = b.calls })) (form_of form client)
    parts.statics
    (ap (map procedure_seen) is ∙ ap (λ p. p ∷ map procedure_seen b.procedures) begins
    ∙ ap (λ ps. start_form form client ∷ ps)
    (all_seen b.procedures (filter_map (λ x. form_by form x x.item) (bodies_of form client)) parts.procedures
    (parts.sets none ∙ sets_made form (bodies_of form client))))
    parts.calls
