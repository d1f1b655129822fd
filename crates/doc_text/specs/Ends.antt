-- The words of how a download ends.
use Rattle.std.specs.Prelude.{ℕ, List, ◌++◌, codes, decimal}
use Rattle.efi_base.specs.declared.response.Part.{Part}
use Rattle.efi_base.specs.declared.response.Part.TheVariants.{Head, Length, Chunk, Trailer}
use Rattle.efi_base.specs.declared.response.CodingField.{CodingField}
use Rattle.efi_base.specs.declared.response.CodingField.TheVariants.{Content, Transfer}
use Rattle.efi_base.specs.declared.load_end.What.{What}
use Rattle.efi_base.specs.declared.load_end.What.TheVariants as what
use Rattle.efi_base.specs.declared.load_end.LoadEnd.{LoadEnd}
use Rattle.efi_base.specs.declared.load_end.LoadEnd.TheVariants as load
use Rattle.doc_text.specs.declared.ends.FileEnd.{FileEnd}
use Rattle.doc_text.specs.declared.ends.FileEnd.TheVariants as file
use Rattle.doc_text.specs.declared.ends.DownloadEnd.{DownloadEnd}
use Rattle.doc_text.specs.declared.ends.DownloadEnd.TheVariants.{Load, File}

-- a word, a space and a number
abbrev pub numbered : List ℕ → ℕ → List ℕ
numbered word n = word ++ (codes " " ++ decimal n)

abbrev pub what_word : What → List ℕ
what_word what.Scheme = codes "scheme"
what_word what.Host = codes "host"

abbrev pub part_word : Part → List ℕ
part_word Head = codes "head"
part_word Length = codes "length"
part_word Chunk = codes "chunk"
part_word Trailer = codes "trailer"

abbrev pub coding_word : CodingField → List ℕ
coding_word Content = codes "content"
coding_word Transfer = codes "transfer"

-- the word of a load's end, with its number or a second word
abbrev pub load_word : LoadEnd → List ℕ
load_word (load.Success n) = numbered (codes "success") n
load_word (load.NoOffer n) = numbered (codes "no-offer") n
load_word load.NoAck = codes "no-ack"
load_word load.Nak = codes "nak"
load_word load.BadUri = codes "bad-uri"
load_word (load.Unsupported what) = codes "unsupported " ++ what_word what
load_word load.NoDns = codes "no-dns"
load_word (load.NameError n) = numbered (codes "name-error") n
load_word load.NoAddress = codes "no-address"
load_word load.DnsTimeout = codes "dns-timeout"
load_word load.NoRoute = codes "no-route"
load_word load.NoMapping = codes "no-mapping"
load_word load.Refused = codes "refused"
load_word load.ConnectTimeout = codes "connect-timeout"
load_word load.SendTimeout = codes "send-timeout"
load_word (load.BadResponse part) = codes "bad-response " ++ part_word part
load_word load.TooManyRedirects = codes "too-many-redirects"
load_word (load.HttpStatus n) = numbered (codes "http-status") n
load_word (load.Coding field) = codes "coding " ++ coding_word field
load_word (load.BufferTooSmall n) = numbered (codes "buffer-too-small") n
load_word (load.Truncated n) = numbered (codes "truncated") n
load_word load.Reset = codes "reset"
load_word load.Idle = codes "idle"
load_word load.OutOfTime = codes "out-of-time"
load_word load.Aborted = codes "aborted"
load_word load.OutOfResources = codes "out-of-resources"
load_word load.NoConnection = codes "no-connection"

-- the word of the end of a file's transfer that no load has
abbrev pub file_word : FileEnd → List ℕ
file_word (file.TftpError n) = numbered (codes "tftp-error") n
file_word file.TftpTimeout = codes "tftp-timeout"
file_word file.TooManyBlocks = codes "too-many-blocks"

abbrev pub download_word : DownloadEnd → List ℕ
download_word (Load end) = load_word end
download_word (File end) = file_word end
