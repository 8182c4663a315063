-- What the types of this crate say.
use Rattle.std.specs.Prelude.{false, Result, Ok, Err}
use Rattle.sctp_model.specs.end.Sealing.{Body}
use Rattle.sctp_cookie.specs.declared.body.CookieBody.{CookieBody}
use Rattle.sctp_cookie.specs.declared.body.CookieContent.{CookieContent}
use Rattle.sctp_cookie.specs.declared.sealing.CookieFault.{CookieFault}

-- a cookie's body: one without stream reset and zero checksums
abbrev pub body_meaning : CookieBody → Body
body_meaning b = record {
  made = b.made;
  listener = record { port = b.listener_port; tag = b.listener_tag; tsn = b.listener_tsn };
  caller = record { port = b.caller_port; tag = b.caller_tag; tsn = b.caller_tsn };
  rwnd = b.caller_rwnd;
  to_caller = b.streams_to_caller;
  from_caller = b.streams_from_caller;
  partial = b.partial_reliability;
  interleave = b.interleaving;
  reset = false;
  zero_checksum = false;
}

-- a cookie's content: a body, with stream reset and zero checksums or without them
abbrev pub content_meaning : CookieContent → Body
content_meaning c = record (body_meaning c.body) { reset = c.reset; zero_checksum = c.zero_checksum }

-- what opening a cookie answers
abbrev pub opened_meaning : Result CookieBody CookieFault → Result Body CookieFault
opened_meaning (Ok body) = Ok (body_meaning body)
opened_meaning (Err fault) = Err fault

-- .. with its content
abbrev pub content_opened : Result CookieContent CookieFault → Result Body CookieFault
content_opened (Ok content) = Ok (content_meaning content)
content_opened (Err fault) = Err fault
