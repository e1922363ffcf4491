-- `query::options_message` meets its contract.
-- Assumes nothing.
use Rattle.query.proofs.CallLaws.{query_message_laws}
use Rattle.reply.proofs.VerdictLaws.{handed-on}
use Rattle.query.proofs.options_message.Goals as goal

pub returns-in_err-check_length : goal.returns-in_err-check_length
returns-in_err-check_length c = handed-on c.from_residual.ensures.1 (search (query_message_laws, c.in_err-check_length.was))

pub returns-in_err-check_options_type : goal.returns-in_err-check_options_type
returns-in_err-check_options_type c = handed-on c.from_residual-in_err-check_options_type.ensures.1 (search (query_message_laws, c.in_ok-check_length.was, c.in_err-check_options_type.was))

pub returns-in_err-check_name : goal.returns-in_err-check_name
returns-in_err-check_name c = handed-on c.from_residual-in_err-check_name.ensures.1 (search (query_message_laws, c.in_ok-check_length.was, c.in_ok-check_options_type.was, c.in_err-check_name.was))

pub returns-in_err-check_bytes : goal.returns-in_err-check_bytes
returns-in_err-check_bytes c = handed-on c.from_residual-in_err-check_bytes.ensures.1 (search (query_message_laws, c.in_ok-check_length.was, c.in_ok-check_options_type.was, c.in_ok-check_name.was, c.in_err-check_bytes.was))
