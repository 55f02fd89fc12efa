-- What was read so far of what was left.
use Rattle.std.proofs.Common.{◌≡◌, ℕ, ◌+◌, ◌≤◌, ◌++◌, List, [], Option, Some, None, ap, append-nil, append_assoc, length, refl, sym, take, ◌∙◌}
use Rattle.std.proofs.Math.Seq.{take-append_seam}
use Rattle.std.proofs.lemmas.List.{take_all}
use Rattle.std.specs.Io.KnownBytes.{Consumes, IsAtEnd}
use Rattle.cv_base.specs.Causes.{Begins}
use Rattle.canvas_cli.specs.Files.{Moves}

pub nothing : (left : Option (List ℕ)) → Consumes left left []
nothing None = tt
nothing (Some xs) = refl

pub further : (left mid rest : Option (List ℕ)) (old new : List ℕ) → Consumes left mid old → Moves mid rest old new → Consumes left rest new
further None mid rest old new first (piece, is, second) = tt
further (Some xs) None rest old new first (piece, is, second) = absurd first
further (Some xs) (Some ys) None old new first (piece, is, second) = absurd second
further (Some xs) (Some ys) (Some zs) old new first (piece, is, second) =
    first ∙ ap (λ r. old ++ r) second ∙ sym (append_assoc old piece zs) ∙ ap (λ r. r ++ zs) (sym is)

-- all of it, where nothing is left
pub all : (left rest : Option (List ℕ)) (max : ℕ) (bytes : List ℕ) → Consumes left rest bytes → IsAtEnd rest → length bytes ≤ max + 1 → Begins left max bytes
all None rest max bytes consumed ended few = tt
all (Some xs) None max bytes consumed ended few = absurd consumed
all (Some xs) (Some ys) max bytes consumed ended few =
    let whole : xs ≡ bytes = consumed ∙ ap (λ r. bytes ++ r) ended ∙ append-nil bytes in
    sym (ap (take (max + 1)) whole ∙ take_all (max + 1) bytes few)

-- as many as may be
pub most : (left rest : Option (List ℕ)) (max : ℕ) (bytes : List ℕ) → Consumes left rest bytes → length bytes ≡ max + 1 → Begins left max bytes
most None rest max bytes consumed many = tt
most (Some xs) None max bytes consumed many = absurd consumed
most (Some xs) (Some ys) max bytes consumed many =
    sym (ap (take (max + 1)) consumed ∙ ap (λ n. take n (bytes ++ ys)) (sym many) ∙ take-append_seam bytes ys)
