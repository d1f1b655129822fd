-- A frame is its header and its payload, and zeros behind them up to 60 octets.
use Rattle.std.proofs.Common.{◌≡◌, ℕ, ◌+◌, ◌-◌, ◌≤◌, ◌<◌, max, List, ◌++◌, length, take, drop, replicate, Ok, sym, ap, ◌∙◌, refl, arith, append_assoc, length-append}
use Rattle.std.proofs.lemmas.List.{take_at, drop_at, drop-drop, length-replicate}
use Rattle.byteorder.specs.Endian.{big_bytes}
use Rattle.efi_base.specs.Writes.{Writes}
use Rattle.wire_link.specs.Ether.{Frame, IsFrame, frame_text, padded}

-- the octets in front of the payload
abbrev pub header_text : Frame → List ℕ
header_text f = f.dest ++ (f.src ++ big_bytes 2 f.proto)

length-header : (f : Frame) → IsFrame f → length (header_text f) ≡ 14
length-header f h = omega (arith, h.dest, h.src, length-append f.dest (f.src ++ big_bytes 2 f.proto), length-append f.src (big_bytes 2 f.proto))

length-zeros : (text : List ℕ) → length (text ++ replicate (60 - length text) 0) ≡ max 60 (length text)
length-zeros text = omega (arith, length-append text (replicate (60 - length text) 0), length-replicate {A = ℕ} (60 - length text) 0)

padded-text : (f : Frame) → IsFrame f → frame_text (padded f) ≡ (header_text f ++ f.payload) ++ replicate (60 - length (header_text f ++ f.payload)) 0
padded-text f h =
    let size : 60 - length (header_text f ++ f.payload) ≡ 46 - length f.payload = omega (arith, length-header f h, length-append (header_text f) f.payload) in
    rw size (simp append_assoc)

-- what the octets behind the text were, they are
behind-same : (text old mid : List ℕ) (n : ℕ) → length text ≤ n → mid ≡ text ++ drop (length text) old → drop n mid ≡ drop n old
behind-same text old mid n h e =
    let more : length text + (n - length text) ≡ n = omega arith in
    let front : drop (length text) mid ≡ drop (length text) old = ap (drop (length text)) e ∙ drop_at text _ (length text) refl in
    ap (λ k. drop k mid) (sym more) ∙ sym (drop-drop (n - length text) (length text) mid) ∙ ap (drop (n - length text)) front
    ∙ drop-drop (n - length text) (length text) old ∙ ap (λ k. drop k old) more

-- zeros were put behind the text
pub zeros-written : (text old mid now : List ℕ) (len n : ℕ) → 60 ≤ length old → Writes text old (Ok len) mid → n ≡ max 60 len
    → now ≡ take len mid ++ (replicate (60 - len) 0 ++ drop (max 60 len) mid) → Writes (text ++ replicate (60 - length text) 0) old (Ok n) now
zeros-written text old mid now len n room w size e =
    let total = length-zeros text in
    let front : take len mid ≡ text = ap (take len) w.2 ∙ take_at text _ len (sym w.0) in
    let behind : drop (max 60 len) mid ≡ drop (max 60 len) old = behind-same text old mid (max 60 len) (omega (arith, w.0)) w.2 in
    let same : now ≡ text ++ (replicate (60 - len) 0 ++ drop (max 60 len) old) = rw (← front, ← behind) e in
    (omega (arith, w.0), omega (arith, w.0, w.1), rw (append_assoc, total) (rw w.0 at same))

-- the header and the payload were written, and then zeros
pub frame-written : (f : Frame) (header old mid now : List ℕ) (len n : ℕ) → IsFrame f → header ≡ header_text f → 60 ≤ length old
    → Writes (header ++ f.payload) old (Ok len) mid → n ≡ max 60 len → now ≡ take len mid ++ (replicate (60 - len) 0 ++ drop (max 60 len) mid)
    → Writes (frame_text (padded f)) old (Ok n) now
frame-written f header old mid now len n h head room w size e =
    rw (padded-text f h) (zeros-written (header_text f ++ f.payload) old mid now len n room (rw head at w) size e)

-- a room of fewer than 60 octets is too short for any frame
pub room-short : (f : Frame) (old : List ℕ) → IsFrame f → length old < 60 → length old < length (frame_text (padded f))
room-short f old h short = rw (padded-text f h) (omega (arith, length-zeros (header_text f ++ f.payload)))
