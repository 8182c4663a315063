-- Every move keeps what is good, so every world that moves lead to from a start is safe.
use Rattle.std.proofs.Common.{List, [], ◌∷◌, sym, subst}
use Rattle.sctp_safety.specs.Always.{SafeAlways, OrderlyAlways}
use Rattle.sctp_safety.proofs.plan.OrderlyPlan.{orderly_when_arranged}
use Rattle.sctp_safety.specs.Way.{Way, Move, Send, Name, Time_passes, Number, Continue, Withdraw, Abandon, Mark, Change_sending, Sack_comes, Shutdown_comes, Put_piece, Put_forward, Put_sack, Put_shutdown, Keep_piece, Drop_piece, Forward_comes, Hand_over, Hand_unordered, Pass_over, Drop_below_next, Let_go, Take, Note_duplicates, Step, Run}
use Rattle.sctp_safety.proofs.moves.Facts.{Good}
use Rattle.sctp_safety.proofs.moves.UserMoves.{kept_by-Send, kept_by-Name, kept_by-Time_passes}
use Rattle.sctp_safety.proofs.moves.NumberMoves.{kept_by-Number, kept_by-Continue, kept_by-Mark}
use Rattle.sctp_safety.proofs.moves.SenderMoves.{kept_by-Withdraw, kept_by-Abandon, kept_by-Change_sending, kept_by-Sack_comes, kept_by-Shutdown_comes}
use Rattle.sctp_safety.proofs.moves.BagMoves.{kept_by-Put_piece, kept_by-Put_forward, kept_by-Put_sack, kept_by-Put_shutdown}
use Rattle.sctp_safety.proofs.moves.PieceMoves.{kept_by-Keep_piece, kept_by-Drop_piece}
use Rattle.sctp_safety.proofs.moves.ForwardMove.{kept_by-Forward_comes}
use Rattle.sctp_safety.proofs.moves.OrderedMoves.{kept_by-Hand_over, kept_by-Pass_over, kept_by-Drop_below_next}
use Rattle.sctp_safety.proofs.moves.UnorderedMoves.{kept_by-Hand_unordered, kept_by-Let_go}
use Rattle.sctp_safety.proofs.moves.TakeMoves.{kept_by-Take, kept_by-Note_duplicates}
use Rattle.sctp_safety.proofs.moves.GoodStart.{good_start}
use Rattle.sctp_safety.proofs.moves.SafeWhenGood.{safe_when_good}

pub kept_by-Step : (w v : Way) (e : Move) → Good w → Step w e v → Good v
kept_by-Step w v (Send call fragments) g h = kept_by-Send w v call fragments g h
kept_by-Step w v (Name t) g h = kept_by-Name w v t g h
kept_by-Step w v (Time_passes t) g h = kept_by-Time_passes w v t g h
kept_by-Step w v (Number before q rest count) g h = kept_by-Number w v before q rest count g h
kept_by-Step w v (Continue l n k count) g h = kept_by-Continue w v l n k count g h
kept_by-Step w v (Withdraw before q rest) g h = kept_by-Withdraw w v before q rest g h
kept_by-Step w v (Abandon l n) g h = kept_by-Abandon w v l n g h
kept_by-Step w v (Mark l n) g h = kept_by-Mark w v l n g h
kept_by-Step w v (Change_sending b) g h = kept_by-Change_sending w v b g h
kept_by-Step w v (Sack_comes x) g h = kept_by-Sack_comes w v x g h
kept_by-Step w v (Shutdown_comes c) g h = kept_by-Shutdown_comes w v c g h
kept_by-Step w v (Put_piece i) g h = kept_by-Put_piece w v i g h
kept_by-Step w v (Put_forward x) g h = kept_by-Put_forward w v x g h
kept_by-Step w v (Put_sack x) g h = kept_by-Put_sack w v x g h
kept_by-Step w v (Put_shutdown c) g h = kept_by-Put_shutdown w v c g h
kept_by-Step w v (Keep_piece x) g h = kept_by-Keep_piece w v x g h
kept_by-Step w v (Drop_piece x) g h = kept_by-Drop_piece w v x g h
kept_by-Step w v (Forward_comes x skip) g h = kept_by-Forward_comes w v x skip g h
kept_by-Step w v (Hand_over s x xs) g h = kept_by-Hand_over w v s x xs g h
kept_by-Step w v (Hand_unordered x xs) g h = kept_by-Hand_unordered w v x xs g h
kept_by-Step w v (Pass_over s) g h = kept_by-Pass_over w v s g h
kept_by-Step w v (Drop_below_next s) g h = kept_by-Drop_below_next w v s g h
kept_by-Step w v (Let_go t) g h = kept_by-Let_go w v t g h
kept_by-Step w v (Take s x rest) g h = kept_by-Take w v s x rest g h
kept_by-Step w v (Note_duplicates t) g h = kept_by-Note_duplicates w v t g h

pub kept_by-Run : (w v : Way) (es : List Move) → Good w → Run w es v → Good v
kept_by-Run w v [] g h = subst Good (sym h) g
kept_by-Run w v (e ∷ es) g (mid, step, rest) = kept_by-Run mid v es (kept_by-Step w mid e g step) rest

pub safe_always : SafeAlways
safe_always w v es start run = safe_when_good v (kept_by-Run w v es (good_start w start) run)

pub orderly_always : OrderlyAlways
orderly_always w v es start run = orderly_when_arranged v.format v.sender.plan (kept_by-Run w v es (good_start w start) run).arranged
