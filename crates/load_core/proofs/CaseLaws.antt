-- A stream meets one case of each kind.
use Rattle.std.proofs.Common.{◌≡◌, ◌≢◌, ℕ, zero, suc, ◌<◌, Bool, List, length, refl, sym, ap, ◌∙◌, subst, arith, Some, None}
use Rattle.httparse.specs.Grammar.{ResponseHead, status_code}
use Rattle.efi_base.specs.declared.response.CodingField.{CodingField}
use Rattle.efi_base.specs.declared.response.Part.{Part}
use Rattle.wire_http.specs.declared.head.Framing.{Framing}
use Rattle.wire_http.specs.declared.head.Framing.TheVariants as framing
use Rattle.wire_http.specs.Fields.{coding_of, framing_of}
use Rattle.wire_http.specs.Heads.{fields_of}
use Rattle.wire_http.proofs.BadLaws.{bad-one}
use Rattle.wire_http.proofs.PieceLaws.{so_far_unique}
use Rattle.wire_http.proofs.ResponseLaws.{heads_unique, one_whole}
use Rattle.efi_base.specs.declared.load_end.LoadEnd.{LoadEnd}
use Rattle.efi_base.specs.declared.load_end.LoadEnd.TheVariants.{Success, BadResponse, HttpStatus, Coding, BufferTooSmall, Truncated, Reset}
use Rattle.load_core.specs.Cases.{HasFinal, IsLengthSoFar, IsLength, Meets, order}

-- what holds of the one final head and its rest holds of the other
at_same : (stream : List ℕ) (P Q : ResponseHead → List ℕ → Type 0) (x : HasFinal stream P) → HasFinal stream Q → Q x.1 x.2
at_same stream P Q x y =
    let same = heads_unique stream x.0 y.0 x.1 y.1 x.2 y.2 x.3 y.3 in
    subst (Q x.1) (sym same.1) (subst (λ (h : ResponseHead). Q h y.2) (sym same.0) y.4)

-- ---- lengths

so_far_one : (f : Framing) (rest : List ℕ) (n m : ℕ) → IsLengthSoFar f rest n → IsLengthSoFar f rest m → n ≡ m
so_far_one f rest n m x y =
    x.2 ∙ ap length (so_far_unique f rest x.0 x.1 ∙ sym (so_far_unique f rest y.0 y.1)) ∙ sym y.2

length_one : (f : Framing) (rest : List ℕ) (n m : ℕ) → IsLength f rest n → IsLength f rest m → n ≡ m
length_one framing.Empty rest n m x y = so_far_one framing.Empty rest n m x y
length_one (framing.Length stated) rest n m x y = x ∙ sym y
length_one framing.Chunked rest n m x y = so_far_one framing.Chunked rest n m x y
length_one framing.Close rest n m x y = so_far_one framing.Close rest n m x y
length_one framing.BadLength rest n m x y = so_far_one framing.BadLength rest n m x y

-- ---- the kinds

status_one : (stream : List ℕ) (s t : ℕ) → HasFinal stream (λ head rest. (s ≡ status_code head) × (s ≢ 200))
    → HasFinal stream (λ head rest. (t ≡ status_code head) × (t ≢ 200)) → HttpStatus s ≡ HttpStatus t
status_one stream s t x y =
    let other = at_same stream (λ head rest. (s ≡ status_code head) × (s ≢ 200)) (λ head rest. (t ≡ status_code head) × (t ≢ 200)) x y in
    ap (λ (n : ℕ). HttpStatus n) (x.4.0 ∙ sym other.0)

-- the final head has this coding
abbrev IsCoded : CodingField → ResponseHead → List ℕ → Type 0
IsCoded f head rest = (status_code head ≡ 200) × (coding_of (fields_of head) ≡ Some f)

coding_one : (stream : List ℕ) (f g : CodingField) → HasFinal stream (IsCoded f) → HasFinal stream (IsCoded g) → Coding f ≡ Coding g
coding_one stream f g x y =
    let other = at_same stream (IsCoded f) (IsCoded g) x y in
    let both : Some f ≡ Some g = sym x.4.1 ∙ other.1 in
    cc

-- the final head has a body of this length, which is over the buffer
abbrev IsOver : ℕ → ℕ → ResponseHead → List ℕ → Type 0
IsOver most n head rest =
    (status_code head ≡ 200) × (coding_of (fields_of head) ≡ None) × IsLength (framing_of 200 (fields_of head)) rest n × (most < n)

small_one : (most : ℕ) (stream : List ℕ) (n m : ℕ) → HasFinal stream (IsOver most n) → HasFinal stream (IsOver most m)
    → BufferTooSmall n ≡ BufferTooSmall m
small_one most stream n m x y =
    let other = at_same stream (IsOver most n) (IsOver most m) x y in
    ap (λ (k : ℕ). BufferTooSmall k) (length_one (framing_of 200 (fields_of x.1)) x.2 n m x.4.2 other.2)

-- the case has this place in the order
abbrev IsKind : ℕ → LoadEnd → Type 0
IsKind zero e = (n : ℕ) × (e ≡ Success n)
IsKind (suc zero) e = (p : Part) × (e ≡ BadResponse p)
IsKind (suc (suc zero)) e = (s : ℕ) × (e ≡ HttpStatus s)
IsKind (suc (suc (suc zero))) e = (f : CodingField) × (e ≡ Coding f)
IsKind (suc (suc (suc (suc zero)))) e = (n : ℕ) × (e ≡ BufferTooSmall n)
IsKind (suc (suc (suc (suc (suc zero))))) e = (n : ℕ) × (e ≡ Truncated n)
IsKind (suc (suc (suc (suc (suc (suc zero)))))) e = e ≡ Reset
IsKind (suc (suc (suc (suc (suc (suc (suc k))))))) e = Unit {0}

kind-of : (e : LoadEnd) → IsKind (order e) e
kind-of (Success n) = (n, refl)
kind-of (BadResponse p) = (p, refl)
kind-of (HttpStatus s) = (s, refl)
kind-of (Coding f) = (f, refl)
kind-of (BufferTooSmall n) = (n, refl)
kind-of (Truncated n) = (n, refl)
kind-of Reset = refl
kind-of other = tt

pub case-one : (most : ℕ) (stream : List ℕ) (fin reset : Bool) (a b : LoadEnd) → Meets most stream fin reset a → Meets most stream fin reset b
    → order a ≡ order b → a ≡ b
case-one most stream fin reset a b x y e = by a x (subst (λ (n : ℕ). IsKind n b) (sym e) (kind-of b))
  where
    by : (a : LoadEnd) → Meets most stream fin reset a → IsKind (order a) b → a ≡ b
    by (Success n) x k =
        let z = subst (Meets most stream fin reset) k.1 y in
        let same = one_whole stream x.0 z.0 fin 200 200 x.1 z.1 in
        ap Success (x.2 ∙ ap length same.1 ∙ sym z.2) ∙ sym k.1
    by (BadResponse p) x k = ap (λ (q : Part). BadResponse q) (bad-one stream p k.0 x (subst (Meets most stream fin reset) k.1 y)) ∙ sym k.1
    by (HttpStatus s) x k = status_one stream s k.0 x (subst (Meets most stream fin reset) k.1 y) ∙ sym k.1
    by (Coding f) x k = coding_one stream f k.0 x (subst (Meets most stream fin reset) k.1 y) ∙ sym k.1
    by (BufferTooSmall n) x k = small_one most stream n k.0 x (subst (Meets most stream fin reset) k.1 y) ∙ sym k.1
    by (Truncated n) x k =
        let z = subst (Meets most stream fin reset) k.1 y in
        ap (λ (m : ℕ). Truncated m) (x.1 ∙ sym z.1) ∙ sym k.1
    by Reset x k = sym k
    by other x k = absurd x
