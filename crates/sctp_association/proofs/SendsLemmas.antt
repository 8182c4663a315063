-- The sendings of a packet: what goes in before user data is control chunks, and so what is counted is what fills the packet behind them.
use Rattle.std.proofs.Common.{◌≡◌, List, [], ◌∷◌, ◌++◌, Bool, refl, sym, subst}
use Rattle.std.specs.List.{All}
use Rattle.std.proofs.lemmas.List.Elements.{All-nil, All-cons, All-append}
use Rattle.sctp_model.specs.wire.Chunk.{ChunkMeaning}
use Rattle.sctp_model.specs.messages.Format as format
use Rattle.sctp_model.specs.messages.Format.{Format}
use Rattle.sctp_model.specs.messages.Framing.{forward_chunk}
use Rattle.sctp_model.specs.sender.SentChunks.{forward_said, forward_end}
use Rattle.sctp_model.specs.end.EndView.{EndView, format_of}
use Rattle.sctp_model.specs.end.Building.{Slot, Wants, EchoCookie, AckCookie, AckHeartbeat, Beat, ReportCauses, Acknowledge, PassOn, AnswerReset, AskReset, SayShutdown, AnswerShutdown, once_built, Puts, NoMore, NotDue, Put, IsFull, filled_behind, fragments}
use Rattle.sctp_model.specs.end.Reconfiguring.{asking}
use Rattle.sctp_association.specs.declared.build.sendings.Filled.{Filled}
use Rattle.sctp_association.specs.declared.build.sendings.Sendings.{Sendings}
use Rattle.sctp_association.specs.Sends.{IsControl, FillsNone, sendings_by, Sends, SendsNone, SendsBehind}

-- ---- control chunks

forward_control : (f : Format) (v : EndView) → IsControl (forward_chunk f (forward_said f v.sender (forward_end f v.configuration.limit v.sender)))
forward_control format.Plain v = refl
forward_control format.Interleaved v = refl

-- what is due at a place is a control chunk
wants_control : (e : EndView) (s : Slot) (x : ChunkMeaning) → Wants e s x → IsControl x
wants_control e _ _ (EchoCookie t xs is) = refl
wants_control e _ _ AckCookie = refl
wants_control e _ _ (AckHeartbeat info is) = refl
wants_control e _ _ Beat = refl
wants_control e _ _ ReportCauses = refl
wants_control e _ _ (Acknowledge s is) = refl
wants_control e _ _ PassOn = forward_control (format_of e) e
wants_control e _ _ AnswerReset = refl
wants_control e _ _ (AskReset q is) = refl
wants_control e _ _ (SayShutdown c is) = refl
wants_control e _ _ AnswerShutdown = refl

pub one_control : (x : ChunkMeaning) → IsControl x → All IsControl (x ∷ [])
one_control x is = All-cons IsControl x [] is (All-nil IsControl)

pub puts_control : (ss : List Slot) (e : EndView) (xs zs : List ChunkMeaning) (full : Bool) (x : EndView) → Puts ss e xs zs full x → All IsControl xs → All IsControl zs
puts_control _ _ _ _ _ _ (NoMore e xs) control = control
puts_control _ _ _ _ _ _ (NotDue s ss e xs zs full t off puts) control = puts_control ss e xs zs full t puts control
puts_control _ _ _ _ _ _ (Put s ss e x xs zs full t on wants room puts) control =
    puts_control ss (once_built s e) (xs ++ x ∷ []) zs full t puts (All-append IsControl xs (x ∷ []) control (one_control x (wants_control e s x wants)))
puts_control _ _ _ _ _ _ (IsFull s ss e x xs on wants room) control = control

pub puts_from_none : (ss : List Slot) (e : EndView) (zs : List ChunkMeaning) (full : Bool) (x : EndView) → Puts ss e [] zs full x → All IsControl zs
puts_from_none ss e zs full x puts = puts_control ss e [] zs full x puts (All-nil IsControl)

-- ---- the sendings

pub sends_none : (e : EndView) (zs : List ChunkMeaning) (x : Filled) → All IsControl zs → FillsNone x → Sends e zs x.sendings
sends_none e zs x control none = subst (Sends e zs) (sym none.sendings) (SendsNone zs control)

pub sends_nothing : (e : EndView) (zs : List ChunkMeaning) (x : Filled) → zs ≡ [] → FillsNone x → Sends e zs x.sendings
sends_nothing e zs x empty none = subst (λ (ys : List ChunkMeaning). Sends e ys x.sendings) (sym empty) (sends_none e [] x (All-nil IsControl) none)

pub sends_behind : (e : EndView) (zs cs : List ChunkMeaning) (x : Sendings) → asking e ≡ e → All IsControl zs → cs ≡ zs ++ fragments e zs → x ≡ sendings_by e.pace (filled_behind e zs).wishes → Sends e cs x
sends_behind e zs cs x asked control chunks is =
    let here : Sends e (zs ++ fragments e zs) (sendings_by e.pace (filled_behind e zs).wishes) =
    subst (λ (y : EndView). Sends e (zs ++ fragments y zs) (sendings_by e.pace (filled_behind y zs).wishes)) asked (SendsBehind zs control) in
    subst (λ (ys : List ChunkMeaning). Sends e ys x) (sym chunks) (subst (Sends e (zs ++ fragments e zs)) (sym is) here)
