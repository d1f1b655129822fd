-- Where the final head of a stream ends.
use Rattle.std.specs.Prelude.{◌≡◌, ℕ, ◌≤◌, Bool, ◌&&◌, ◌==◌, not, nat_le, ⊤, List, ◌++◌, length, drop, IsTrue}
use Rattle.std.specs.List.{flat_map, AllByRecursion}
use Rattle.httparse.specs.Grammar.{ResponseHead, print_response, status_code}
use Rattle.wire_http.specs.declared.head.HeadInfo.{HeadInfo}
use Rattle.wire_http.specs.Heads.{fields_of, IsHead, is_interim, HasHeads}
use Rattle.wire_http.specs.Info.{IsInfo}
use Rattle.load_core.specs.declared.heads.Found.{Found}
use Rattle.load_core.specs.declared.heads.Found.TheVariants as found
use Rattle.load_core.specs.declared.heads.Next.{Next}
use Rattle.load_core.specs.declared.heads.Next.TheVariants.{Interim, Final, More, Bad}

-- another head follows one of this status
abbrev pub is_interim_status : ℕ → Bool
is_interim_status n = nat_le 100 n && (nat_le n 199 && not (n == 101))

-- P of the place, where one more interim head ends there
abbrev pub IfInterim : Next → (ℕ → Type 0) → Type 0
IfInterim (Interim n) P = P n
IfInterim (Final info n) P = ⊤
IfInterim More P = ⊤
IfInterim Bad P = ⊤

-- P of the info and the place, where the final head ends there
abbrev pub IfLast : Next → (HeadInfo → ℕ → Type 0) → Type 0
IfLast (Interim n) P = ⊤
IfLast (Final info n) P = P info n
IfLast More P = ⊤
IfLast Bad P = ⊤

-- the same of what is found in all
abbrev pub IfFinal : Found → (HeadInfo → ℕ → Type 0) → Type 0
IfFinal (found.Final info n) P = P info n
IfFinal found.More P = ⊤
IfFinal found.Bad P = ⊤

-- the octets up to the place are interim heads
pub record HasPassed (bytes : List ℕ) (at : ℕ) : Type 0 where
  pub interim : List ResponseHead
  pub valid : AllByRecursion IsHead interim
  pub are_interim : AllByRecursion (λ head. IsTrue (is_interim head)) interim
  pub text : bytes ≡ flat_map print_response interim ++ drop at bytes

-- all heads are there, they end at the place, and the info is what the final one says
pub record IsFinal (bytes : List ℕ) (info : HeadInfo) (n : ℕ) : Type 0 where
  pub interim : List ResponseHead
  pub final : ResponseHead
  pub heads : HasHeads bytes interim final (drop n bytes)
  pub says : IsInfo info (status_code final) (fields_of final)
  pub within : n ≤ length bytes
