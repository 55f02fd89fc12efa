-- A choice among items is one among what the items stand for, where each of these that counts has an item that is as wide and no later.
-- So rows of numbers stand for cubes of literals, and literals that never narrow a cube are left out.
use Rattle.std.proofs.Common.{◌≡◌, Bool, true, List, [], ◌∷◌, map, refl, ap, sym, subst, inl, inr, ⊎_elim}
use Rattle.cube_search.specs.Lists.{IsIn, Rises}
use Rattle.cube_search.specs.Widest.{IsWidest, Adds, AreChosen}
use Rattle.cube_search.proofs.Kept.{IsAtMost}
use Rattle.cube_search.proofs.Lists.{each-in, each-from}

-- it counts, and none that counts is true in strictly more cases
pub record IsWidestOf {R C : Type 0} (True : R → C → Type 0) (Counts : R → Type 0) (r : R) : Type 0 where
  pub counts : Counts r
  pub widest : (s : R) → Counts s → ((x : C) → True r x → True s x) → (x : C) → True s x → True r x

pub record AreChosenOf {R C : Type 0} (True : R → C → Type 0) (Before : R → R → Type 0) (Counts : R → Type 0) (chosen : List R) : Type 0 where
  pub order : Rises Before chosen
  pub widest : (r : R) → IsIn r chosen → IsWidestOf True Counts r × Adds True Before chosen r
  pub all : (r : R) → IsWidestOf True Counts r → Adds True Before chosen r → IsIn r chosen

-- what is asked of what items stand for
pub record Stands {Q R C : Type 0} (True : Q → C → Type 0) (Before : Q → Q → Type 0) (within : Q → Q → Bool) (Counts : Q → Type 0) (True' : R → C → Type 0)
    (Before' : R → R → Type 0) (Counts' : R → Type 0) (f : Q → R) : Type 0 where
  pub counts : (c : Q) → Counts c → Counts' (f c)
  pub to : (c : Q) (x : C) → Counts c → True c x → True' (f c) x
  pub from : (c : Q) (x : C) → Counts c → True' (f c) x → True c x
  pub later : (c d : Q) → Counts c → Counts d → Before c d → Before' (f c) (f d)
  pub back : (c d : Q) → Counts c → Counts d → Before' (f c) (f d) → Before c d
  pub along : (r s t : R) → Before' r s → Before' s t → Before' r t
  pub wide : (c d : Q) → Counts c → Counts d → within c d ≡ true → (x : C) → True c x → True d x
  pub tells : (c d : Q) → Counts c → Counts d → ((x : C) → True c x → True d x) → within c d ≡ true
  -- each one that counts has an item that is true where it is, and comes no later
  pub item : (r : R) → Counts' r → Q
  pub item_counts : (r : R) (h : Counts' r) → Counts (item r h)
  pub item_true : (r : R) (h : Counts' r) (x : C) → True' r x → True' (f (item r h)) x
  pub true_item : (r : R) (h : Counts' r) (x : C) → True' (f (item r h)) x → True' r x
  pub item_first : (r : R) (h : Counts' r) → IsAtMost Before' (f (item r h)) r

in-map : {Q R : Type 0} (f : Q → R) (cs : List Q) (c : Q) → IsIn c cs → IsIn (f c) (map f cs)
in-map f [] c has = absurd has
in-map f (d ∷ cs) c has = ⊎_elim (λ (e : d ≡ c). inl (ap f e)) (λ (i : IsIn c cs). inr (in-map f cs c i)) has

map-in : {Q R : Type 0} (f : Q → R) (cs : List Q) (r : R) → IsIn r (map f cs) → (c : Q) × IsIn c cs × (f c ≡ r)
map-in f [] r has = absurd has
map-in f (c ∷ cs) r has =
    ⊎_elim
    (λ (e : f c ≡ r). (c, inl refl, e))
    (λ (i : IsIn r (map f cs)). let m = map-in f cs r i in (m.0, inr m.1, m.2))
    has

module _ {Q R C : Type 0} (True : Q → C → Type 0) (Before : Q → Q → Type 0) (within : Q → Q → Bool) (Counts : Q → Type 0) (True' : R → C → Type 0)
    (Before' : R → R → Type 0) (Counts' : R → Type 0) (f : Q → R)
    (stands : Stands True Before within Counts True' Before' Counts' f) where
  widest_to : (c : Q) → IsWidest within Counts c → IsWidestOf True' Counts' (f c)
  widest_to c w = record {
    counts = stands.counts c w.counts;
    widest = λ s h inside x true_at.
        let d = stands.item s h in
        let hd = stands.item_counts s h in
        let wide = w.widest d hd (stands.tells c d w.counts hd (λ y t. stands.from d y hd (stands.item_true s h y (inside y (stands.to c y w.counts t))))) in
        stands.to c x w.counts (stands.wide d c hd w.counts wide x (stands.from d x hd (stands.item_true s h x true_at)));
  }

  widest_from : (r : R) (w : IsWidestOf True' Counts' r) → IsWidest within Counts (stands.item r w.counts)
  widest_from r w =
      let c = stands.item r w.counts in
      let hc = stands.item_counts r w.counts in
      record {
        counts = hc;
        widest = λ d hd inside.
            let all = w.widest (f d) (stands.counts d hd)
            (λ x t. stands.to d x hd (stands.wide c d hc hd inside x (stands.from c x hc (stands.item_true r w.counts x t)))) in
            stands.tells d c hd hc (λ x t. stands.from c x hc (stands.item_true r w.counts x (all x (stands.to d x hd t))));
      }

  pub carried : (chosen : List Q) → AreChosen True Before within Counts chosen → AreChosenOf True' Before' Counts' (map f chosen)
  carried chosen are = record {
    order = rise chosen (λ c i. (are.widest c i).0.counts) are.order;
    widest = λ r has.
        let m = map-in f chosen r has in
        let w = are.widest m.0 m.1 in
        subst (λ s. IsWidestOf True' Counts' s × Adds True' Before' (map f chosen) s) m.2 (widest_to m.0 w.0, adds_to m.0 w.0.counts w.1);
    all = λ r w more.
        let c = stands.item r w.counts in
        let hc = stands.item_counts r w.counts in
        let true_at : True c more.0 = stands.from c more.0 hc (stands.item_true r w.counts more.0 more.1) in
        let added : Adds True Before chosen c = (
          more.0,
          true_at,
          λ d i first t. more.2 (f d) (in-map f chosen d i)
              (⊎_elim
              (λ (e : f c ≡ r). subst (Before' (f d)) e (stands.later d c (are.widest d i).0.counts hc first))
              (λ (b : Before' (f c) r). stands.along (f d) (f c) r (stands.later d c (are.widest d i).0.counts hc first) b)
              (stands.item_first r w.counts))
              (stands.to d more.0 (are.widest d i).0.counts t),
        ) in
        let has = in-map f chosen c (are.all c (widest_from r w) added) in
        ⊎_elim
        (λ (e : f c ≡ r). subst (λ s. IsIn s (map f chosen)) e has)
        (λ (b : Before' (f c) r). absurd (more.2 (f c) has b (stands.to c more.0 hc true_at)))
        (stands.item_first r w.counts);
  }
    where
      rise : (cs : List Q) → ((c : Q) → IsIn c cs → Counts c) → Rises Before cs → Rises Before' (map f cs)
      rise [] count up = tt
      rise (c ∷ cs) count up = (
        each-from (Before' (f c)) (map f cs)
            (λ r has. let m = map-in f cs r has in subst (Before' (f c)) m.2
            (stands.later c m.0 (count c (inl refl)) (count m.0 (inr m.1)) (each-in (Before c) cs m.0 up.0 m.1))),
        rise cs (λ d i. count d (inr i)) up.1,
      )

      adds_to : (c : Q) → Counts c → Adds True Before chosen c → Adds True' Before' (map f chosen) (f c)
      adds_to c hc more = (
        more.0,
        stands.to c more.0 hc more.1,
        λ s has first t.
            let m = map-in f chosen s has in
            let hm = (are.widest m.0 m.1).0.counts in
            more.2 m.0 m.1 (stands.back m.0 c hm hc (subst (λ z. Before' z (f c)) (sym m.2) first))
            (stands.from m.0 more.0 hm (subst (λ z. True' z more.0) (sym m.2) t)),
      )
