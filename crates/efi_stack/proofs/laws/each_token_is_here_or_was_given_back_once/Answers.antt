use Rattle.efi_stack.proofs.Tokens.{all-once}
use Rattle.efi_stack.proofs.laws.each_token_is_here_or_was_given_back_once.Goals as goal

pub returns : goal.returns
returns c = all-once
