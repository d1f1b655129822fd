-- The words of refusals, and of tokens' ends.
use Rattle.std.specs.Prelude.{ℕ, List, ◌++◌, codes}
use Rattle.efi_base.specs.declared.refuse.Field.{Field}
use Rattle.efi_base.specs.declared.refuse.Field.TheVariants as field
use Rattle.efi_base.specs.declared.refuse.Refuse.{Refuse}
use Rattle.efi_base.specs.declared.refuse.Refuse.TheVariants as refuse
use Rattle.efi_base.specs.declared.tokens.End.{End}
use Rattle.efi_base.specs.declared.tokens.End.TheVariants as end
use Rattle.doc_text.specs.Ends.{numbered, part_word, load_word}

abbrev pub field_word : Field → List ℕ
field_word field.Filter = codes "filter"
field_word field.Length = codes "length"
field_word field.Address = codes "address"
field_word field.Mask = codes "mask"
field_word field.Port = codes "port"
field_word field.Tries = codes "tries"
field_word field.Gap = codes "gap"
field_word field.Server = codes "server"
field_word field.Name = codes "name"
field_word field.Url = codes "url"
field_word field.Room = codes "room"

abbrev pub refuse_word : Refuse → List ℕ
refuse_word refuse.BadHandle = codes "bad-handle"
refuse_word refuse.NotStarted = codes "not-started"
refuse_word refuse.AlreadyStarted = codes "already-started"
refuse_word refuse.AccessDenied = codes "access-denied"
refuse_word refuse.NoMapping = codes "no-mapping"
refuse_word (refuse.BadConfig field) = codes "bad-config " ++ field_word field
refuse_word refuse.NotFound = codes "not-found"
refuse_word refuse.NoRoute = codes "no-route"
refuse_word refuse.NotReady = codes "not-ready"
refuse_word refuse.Exhausted = codes "exhausted"
refuse_word refuse.OutOfResources = codes "out-of-resources"

-- the word of an end, with its number or a second word
abbrev pub end_word : End → List ℕ
end_word end.Success = codes "success"
end_word end.Aborted = codes "aborted"
end_word end.DeviceError = codes "device-error"
end_word end.NoMapping = codes "no-mapping"
end_word end.ReceiveTimeout = codes "receive-timeout"
end_word end.PortUnreachable = codes "port-unreachable"
end_word (end.BadResponse part) = codes "bad-response " ++ part_word part
end_word end.ConnectionFin = codes "connection-fin"
end_word end.ConnectionReset = codes "connection-reset"
end_word end.ConnectionRefused = codes "connection-refused"
end_word end.ConnectTimeout = codes "connect-timeout"
end_word end.SendTimeout = codes "send-timeout"
end_word (end.NoOffer n) = numbered (codes "no-offer") n
end_word end.NoAck = codes "no-ack"
end_word end.Nak = codes "nak"
end_word (end.NameError n) = numbered (codes "name-error") n
end_word end.NoAddress = codes "no-address"
end_word end.DnsTimeout = codes "dns-timeout"
end_word (end.TftpError n) = numbered (codes "tftp-error") n
end_word end.TftpTimeout = codes "tftp-timeout"
end_word end.TooManyBlocks = codes "too-many-blocks"
end_word (end.BufferTooSmall n) = numbered (codes "buffer-too-small") n
end_word end.NoRoute = codes "no-route"
end_word (end.Load load_end) = load_word load_end
end_word end.OutOfResources = codes "out-of-resources"
