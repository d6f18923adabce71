mod BytesPulled
mod OneEnd
mod PushedSo
mod WorkedSo
