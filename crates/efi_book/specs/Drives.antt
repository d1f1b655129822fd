-- The core of a driver as contracts see it.
use Rattle.efi_book.specs.declared.driver.Core.{Core}
use Rattle.efi_book.specs.Cores.{Drive}

abbrev pub drive : {K C W M : Type 0} → Core K C W M → Drive C W M
drive s = record { family = s.children; tokens = s.tokens; outbox = s.outbox }
