-- Labels, an octet at a time.
use Rattle.std.proofs.Common.{◌≡◌, ℕ, suc, ◌+◌, Bool, true, false, ◌&&◌, ◌==◌, cond, List, [], ◌∷◌, length, refl, sym, ap, ◌∙◌, arith}
use Rattle.std.proofs.lemmas.Bool.Decides.{nat_tests}
use Rattle.std.specs.List.{list_all}
use Rattle.efi_base.specs.HostNames.{grow, labels, is_label, is_label_length}

-- the first label has n more octets in front
abbrev pub labels_after : ℕ → List (List ℕ) → Bool
labels_after n [] = is_label_length n
labels_after n (label ∷ more) = is_label_length (n + length label) && list_all is_label more

grown : (b : ℕ) (found : List (List ℕ)) → labels_after 0 (grow b found) ≡ list_all is_label (grow b found)
grown b [] = refl
grown b (label ∷ more) =
    let same : 0 + suc (length label) ≡ suc (length label) = omega arith in
    ap (λ (m : ℕ). is_label_length m && list_all is_label more) same

-- nothing stands in front
pub labels_whole : (bytes : List ℕ) → labels_after 0 (labels bytes) ≡ list_all is_label (labels bytes)
labels_whole [] = refl
labels_whole (b ∷ bytes) = by_test (b == 46)
  where
    by_test : (t : Bool) → labels_after 0 (cond t ([] ∷ labels bytes) (grow b (labels bytes)))
        ≡ list_all is_label (cond t ([] ∷ labels bytes) (grow b (labels bytes)))
    by_test true = refl
    by_test false = grown b (labels bytes)

longer : (n b : ℕ) (found : List (List ℕ)) → labels_after n (grow b found) ≡ labels_after (n + 1) found
longer n b [] = grind (arith, nat_tests)
longer n b (label ∷ more) =
    let same : n + suc (length label) ≡ n + 1 + length label = omega arith in
    ap (λ (m : ℕ). is_label_length m && list_all is_label more) same

-- an octet that is no dot
pub labels_longer : (n b : ℕ) (bytes : List ℕ) → (b == 46) ≡ false
    → labels_after n (labels (b ∷ bytes)) ≡ labels_after (n + 1) (labels bytes)
labels_longer n b bytes other =
    ap (λ (t : Bool). labels_after n (cond t ([] ∷ labels bytes) (grow b (labels bytes)))) other ∙ longer n b (labels bytes)

-- a dot
pub labels_dot : (n b : ℕ) (bytes : List ℕ) → (b == 46) ≡ true
    → labels_after n (labels (b ∷ bytes)) ≡ (is_label_length n && labels_after 0 (labels bytes))
labels_dot n b bytes dot =
    let same : n + 0 ≡ n = omega arith in
    ap (λ (t : Bool). labels_after n (cond t ([] ∷ labels bytes) (grow b (labels bytes)))) dot
    ∙ ap (λ (m : ℕ). is_label_length m && list_all is_label (labels bytes)) same
    ∙ ap (λ (t : Bool). is_label_length n && t) (sym (labels_whole bytes))
